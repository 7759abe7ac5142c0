-- A freeze of an open release, from what its walk has gathered.
use Rattle.std.proofs.Common.{◌≡◌, ℕ, true, false, List, [], ◌++◌, length, Option, Some, None, sym}
use Rattle.std.proofs.Common.{refl, ap, ◌∙◌, subst, arith}
use Rattle.std.specs.Prelude.{◌==◌, nat_lt, unwrap_or}
use Rattle.std.specs.Option.{option_map}
use Rattle.std.proofs.lemmas.Bool.Decides.{nat_tests}
use Rattle.desk_base.specs.Day.{is_day}
use Rattle.desk_model.specs.Readings.{Readings}
use Rattle.desk_model.specs.Tables.{Tables}
use Rattle.desk_model.specs.History.{attached_to}
use Rattle.desk_model.specs.Raised.{frozen_for, owed_for, shipped_of}
use Rattle.desk_model.specs.declared.row.AttachedRow.{AttachedRow}
use Rattle.desk_model.specs.Answers.{walk, unready}
use Rattle.desk_history.specs.FromTables.{answer_from, change_for, froze_as, conclusion_found}
use Rattle.desk_history.specs.FromTables.{rules_found, choice_found, shipped_found, release_found}
use Rattle.desk_history.specs.FromTables.{freeze_change_found}
use Rattle.desk_duties.specs.Freezing.{GathersAll, freeze_fits, freeze_open_found}
use Rattle.desk_duties.specs.declared.gathering.Gathered.{Gathered}
use Rattle.desk_model.specs.declared.row.PackageRow.{PackageRow}
use Rattle.desk_model.specs.declared.row.ReleaseRow.{ReleaseRow}
use Rattle.desk_model.specs.declared.refusal.Refusal.{Refusal}
use Rattle.desk_model.specs.declared.refusal.Refusal.TheVariants as why
use Rattle.desk_model.specs.declared.command.Answer.TheVariants as answered
use Rattle.desk_model.specs.declared.command.Command.TheVariants.{Freeze}

filled : (n : ℕ) → (n == 0) ≡ false → nat_lt 0 n ≡ true
filled n some = grind (arith, nat_tests)

unfilled : (n : ℕ) → (n == 0) ≡ true → nat_lt 0 n ≡ false
unfilled n none = grind (arith, nat_tests)

pub nothing_attached : (w : Readings) (t : Tables) (r form : List ℕ)
    → (length (attached_to t.attached r) == 0) ≡ true
    → answered.Refused why.EmptyRelease ≡ freeze_open_found w t r form
nothing_attached w t r form none = sym (rw (unfilled (length (attached_to t.attached r)) none) refl)

-- a release with documents ships what they list
pub ships_some : (t : Tables) (r : List ℕ) (rows : List AttachedRow) (ps : List PackageRow)
    → rows ≡ attached_to t.attached r → (length rows == 0) ≡ false → ps ≡ shipped_of rows t.packages
    → (nat_lt 0 (length (attached_to t.attached r)) ≡ true) × (ps ≡ shipped_found t r)
ships_some t r rows ps are some ships = (
  ap (λ xs. nat_lt 0 (length xs)) (sym are) ∙ filled (length rows) some,
  ships ∙ ap (λ xs. shipped_of xs t.packages) are,
)

pub freeze_refused : (w : Readings) (t : Tables) (r form : List ℕ) (ps : List PackageRow)
    (old new : Gathered) (o : Option Refusal) (refusal : Refusal)
    → nat_lt 0 (length (attached_to t.attached r)) ≡ true → ps ≡ shipped_found t r
    → GathersAll w t form r ps old new o → o ≡ Some refusal
    → answered.Refused refusal ≡ freeze_open_found w t r form
freeze_refused w t r form ps old new o refusal some e g is =
    let g1 : walk w t.adoption (rules_found t) form (conclusion_found w t) (choice_found t
    r) ps ≡ Some refusal = subst (GathersAll w t form r ps old new) is g in
    let g2 : walk w t.adoption (rules_found t) form (conclusion_found w t) (choice_found t
    r) (shipped_found t r) ≡ Some refusal = ap (walk w t.adoption (rules_found t) form
    (conclusion_found w t) (choice_found t r)) (sym e) ∙ g1 in
    sym (rw (some, g2) refl)

pub record Fits (w : Readings) (t : Tables) (r form day : List ℕ) (new : Gathered) : Type 0 where
  pub answer : freeze_fits (length t.duty) (length new.owed.items) ≡ freeze_open_found w t r form
  pub rows : froze_as t r day new.frozen.items new.owed.items ≡ freeze_change_found w t r form day

pub freeze_fitting : (w : Readings) (t : Tables) (r form day : List ℕ) (ps : List PackageRow)
    (old new : Gathered) (o : Option Refusal) → nat_lt 0 (length (attached_to t.attached r)) ≡ true
    → ps ≡ shipped_found t r → old.frozen.items ≡ [] → old.owed.items ≡ []
    → GathersAll w t form r ps old new o → o ≡ None → Fits w t r form day new
freeze_fitting w t r form day ps old new o some e no_frozen no_owed g is =
    let g1 = subst (GathersAll w t form r ps old new) is g in
    let walked : walk w t.adoption (rules_found t) form (conclusion_found w t) (choice_found t
    r) (shipped_found t r) ≡ None = ap (walk w t.adoption (rules_found t) form
    (conclusion_found w t) (choice_found t r)) (sym e) ∙ g1.0 in
    let frozen : new.frozen.items ≡ frozen_for w t.adoption (rules_found t) form r (choice_found t
    r) (shipped_found t r) =
    g1.1 ∙ (ap (λ xs. xs ++ frozen_for w t.adoption (rules_found t) form r (choice_found t r) ps)
    no_frozen ∙ ap (frozen_for w t.adoption (rules_found t) form r (choice_found t r)) e) in
    let owed : new.owed.items ≡ owed_for w t.adoption (rules_found t) form r (choice_found t
    r) (shipped_found t r) =
    g1.2 ∙ (ap (λ xs. xs ++ owed_for w t.adoption (rules_found t) form r (choice_found t r) ps)
    no_owed ∙ ap (owed_for w t.adoption (rules_found t) form r (choice_found t r)) e) in
    record {
      answer = ap (λ xs. freeze_fits (length t.duty) (length xs)) owed
          ∙ sym (rw (some, walked) refl);
      rows = ap (λ xs. froze_as t r day xs new.owed.items) frozen
          ∙ ap (froze_as t r day (frozen_for w t.adoption (rules_found t) form r (choice_found t r)
          (shipped_found t r))) owed;
    }

pub frozen_answer : (w : Readings) (t : Tables) (r day : List ℕ) (row : ReleaseRow)
    → release_found t r ≡ Some row → is_day day ≡ true → None ≡ unready row.state
    → freeze_open_found w t r row.form ≡ answer_from w t (Freeze r day)
frozen_answer w t r day row e d u = sym (rw (e, d, ← u) refl)

pub frozen_change : (w : Readings) (t : Tables) (r day day' : List ℕ) (row : ReleaseRow)
    → release_found t r ≡ Some row → day' ≡ day
    → freeze_change_found w t r row.form day' ≡ change_for w t (Freeze r day)
frozen_change w t r day day' row e d =
    ap (λ (x : List ℕ). freeze_change_found w t r row.form x) d
    ∙ ap (λ (form : List ℕ). freeze_change_found w t r form day)
    (sym (ap (λ (o : Option ReleaseRow). unwrap_or (option_map (λ row. row.form) o) []) e))
