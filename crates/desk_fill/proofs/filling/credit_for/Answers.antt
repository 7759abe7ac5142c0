use Rattle.std.proofs.Common.{◌≡◌, ◌∙◌, map, ap}
use Rattle.std.specs.Prelude.{min}
use Rattle.std.specs.List.{position_or_len, slice_get}
use Rattle.desk_fill.proofs.FirstLemmas.{credit_found, own_of}
use Rattle.desk_fill.specs.Subjects.{Entry, credit_entries, is_of}
use Rattle.desk_fill.specs.declared.subjects.Subject.{Subject}
use Rattle.desk_fill.proofs.filling.credit_for.Goals as goal

pub returns : goal.returns
returns c fills has =
    let entries = credit_entries fills in
    let line = c.args.line.now in
    let own : c.in_ok-own.own ≡ own_of line = c.in_ok-own.ensures
    ∙ (λ i. record { name = line.name; version = c.as_ref.ensures.value i }) in
    let place = λ (s : Subject). position_or_len (is_of s) (map (λ (e : Entry). e.0) entries) in
    c.text.ensures entries has
    ∙ ap (slice_get (map (λ (e : Entry). e.1) entries)) (c.min.ensures
    ∙ (λ i. min ((c.place-of_any.ensures entries has ∙ ap place c.in_ok-any.ensures) i)
    ((c.place-of_own.ensures entries has ∙ ap place own) i)))
    ∙ credit_found line fills
