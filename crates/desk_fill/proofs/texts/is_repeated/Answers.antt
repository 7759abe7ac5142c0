use Rattle.std.proofs.Common.{◌∙◌, ap, map, sym}
use Rattle.std.specs.List.{list_any}
use Rattle.std.proofs.lemmas.List.{length-map}
use Rattle.desk_model.specs.declared.reading.LicenceText.{LicenceText}
use Rattle.desk_fill.proofs.SubjectLemmas.{any_alike, any_mapped, same_title, unless}
use Rattle.desk_fill.specs.Subjects.{is_of, subject_of_text, subject_of_title}
use Rattle.desk_fill.specs.Values.{is_same_text}
use Rattle.desk_fill.proofs.texts.is_repeated.Goals as goal

pub returns-clause-repeated : goal.returns-clause-repeated
returns-clause-repeated c =
    let texts = c.args.texts.now in
    let text = c.args.text.now in
    unless c.in_ok-new.new _ (c.in_ok-new.ensures.new (map subject_of_text texts)
    (sym (length-map texts subject_of_text)) c.requires)
    ∙ ap (λ s. list_any (is_of s) (map subject_of_text texts))
    (c.in_ok-subject.ensures ∙ ap subject_of_title c.as_str.ensures)
    ∙ any_mapped subject_of_text (is_of (subject_of_text text)) texts
    ∙ any_alike (λ other. is_of (subject_of_text text) (subject_of_text other)) (is_same_text text)
    (λ (other : LicenceText). same_title text.title other.title) texts
