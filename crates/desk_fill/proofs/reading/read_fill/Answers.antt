use Rattle.std.proofs.Common.{◌≡◌, false, inl, inr, sym, subst}
use Rattle.std.specs.Str.{is_utf8}
use Rattle.std.proofs.lemmas.Bool.{cases_Bool}
use Rattle.std.proofs.lemmas.Str.{IsUtf8-from_is_utf8, is_utf8-from_IsUtf8}
use Rattle.desk_fill.specs.Reading.{fill_of_text}
use Rattle.desk_fill.specs.Shown.{IsRead}
use Rattle.desk_fill.proofs.EntryLemmas.{read_text, read_no_text}
use Rattle.desk_fill.proofs.reading.read_fill.Goals as goal

pub returns-in-Ok : goal.returns-in-Ok
returns-in-Ok c =
    let bytes = c.args.bytes.now in
    subst (λ r. IsRead r c.fill_of_text.result) (sym (read_text bytes c.if-bytes-gt-FILL_BYTES.false
    (is_utf8-from_IsUtf8 bytes c.in-Ok.ensures.cases.1)))
    (subst (λ t. IsRead (fill_of_text t) c.fill_of_text.result) c.in-Ok.ensures.cases.0
    c.fill_of_text.ensures)

pub returns-in-Err : goal.returns-in-Err
returns-in-Err c =
    let bytes = c.args.bytes.now in
    let none : is_utf8 bytes ≡ false = elim (cases_Bool (is_utf8 bytes)) [
      | inl is ↦ absurd (c.in-Err.ensures.cases.0 (IsUtf8-from_is_utf8 bytes is))
      | inr is ↦ is
    ] in
    read_no_text bytes c.if-bytes-gt-FILL_BYTES.false none
