use Rattle.std.proofs.Common.{◌∙◌, ap, map, sym}
use Rattle.std.specs.List.{list_any}
use Rattle.std.proofs.lemmas.List.{length-map}
use Rattle.desk_fill.proofs.SubjectLemmas.{any_mapped, unless}
use Rattle.desk_fill.specs.Subjects.{is_of, subject_of_credit}
use Rattle.desk_fill.proofs.credits.is_repeated.Goals as goal

pub returns-clause-repeated : goal.returns-clause-repeated
returns-clause-repeated c =
    let credits = c.args.credits.now in
    let subject = c.args.credit.now in
    unless c.in_ok-new.new _ (c.in_ok-new.ensures.new (map subject_of_credit credits)
    (sym (length-map credits subject_of_credit)) c.requires)
    ∙ ap (λ s. list_any (is_of s) (map subject_of_credit credits)) c.in_ok-subject.ensures
    ∙ any_mapped subject_of_credit (is_of (subject_of_credit subject)) credits
