use Rattle.std.proofs.Common.{◌∙◌, map, ap}
use Rattle.std.specs.List.{position_or_len, slice_get}
use Rattle.desk_fill.proofs.FirstLemmas.{text_found}
use Rattle.desk_fill.specs.Subjects.{Entry, is_of, text_entries}
use Rattle.desk_fill.specs.declared.subjects.Subject.{Subject}
use Rattle.desk_fill.proofs.filling.text_for.Goals as goal

pub returns : goal.returns
returns c fills has =
    let entries = text_entries fills in
    c.text.ensures entries has
    ∙ ap (slice_get (map (λ (e : Entry). e.1) entries)) (c.place-place.ensures entries has
    ∙ ap (λ (s : Subject). position_or_len (is_of s) (map (λ (e : Entry). e.0) entries))
    c.in_ok-subject.ensures)
    ∙ text_found c.args.title.now fills
