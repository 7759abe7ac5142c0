use Rattle.std.proofs.Common.{◌≡◌, ◌∷◌, false, inl, inr, rules, refl, ap, Some}
use Rattle.std.specs.Str.{is_utf8}
use Rattle.std.proofs.lemmas.Bool.{cases_Bool}
use Rattle.std.proofs.lemmas.Str.{IsUtf8-from_is_utf8, is_utf8-from_IsUtf8}
use Rattle.desk_assignments.proofs.source.at_path.Goals as goal

pub returns-in-Ok : goal.returns-in-Ok
returns-in-Ok c =
    let path = c.in_ok-first.path.now in
    let whole : c.args.bytes.now ≡ 64 ∷ path = search rules in
    let text = is_utf8-from_IsUtf8 path c.in-Ok.ensures.cases.1 in
    rw (whole, text) (ap Some c.in-Ok.ensures.cases.0)

pub returns-in-Err : goal.returns-in-Err
returns-in-Err c =
    let path = c.in_ok-first.path.now in
    let whole : c.args.bytes.now ≡ 64 ∷ path = search rules in
    let none : is_utf8 path ≡ false =
    elim (cases_Bool (is_utf8 path)) [
      | inl is ↦ absurd (c.in-Err.ensures.cases.0 (IsUtf8-from_is_utf8 path is))
      | inr is ↦ is
    ] in
    rw (whole, none) refl
