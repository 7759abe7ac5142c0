-- Changes that leave duties with consecutive numbers in one state set them as one statement does.
use Rattle.std.proofs.Common.{◌≡◌, ◌∙◌, ℕ, ◌+◌, ◌≤◌, Bool, true, false, List, [], ◌∷◌, ◌++◌, refl, sym, ap, arith}
use Rattle.std.specs.Prelude.{◌&&◌, ◌||◌, ◌==◌, nat_le, if◌then◌else◌}
use Rattle.std.proofs.lemmas.Bool.Decides.{nat_tests}
use Rattle.desk_model.specs.Keys.{is_duty}
use Rattle.desk_model.specs.Lists.{updated}
use Rattle.desk_model.specs.States.{state_after}
use Rattle.desk_model.specs.Tables.{moved_by, with_duty_state}
use Rattle.desk_model.specs.declared.row.ChangeRow.{ChangeRow}
use Rattle.desk_model.specs.declared.row.DutyRow.{DutyRow}
use Rattle.desk_model.specs.declared.state.DutyState.{DutyState}
use Rattle.desk_sql_write.specs.Runs.{is_numbered, Sets}

-- One duty

one_numbered : (n m : ℕ) → (m == n) ≡ (nat_le n m && nat_le m n)
one_numbered n m = grind (arith, nat_tests)

pub sets_one : (row : ChangeRow) → Sets (row ∷ []) row.duty row.duty (state_after row.word)
sets_one row [] = refl
sets_one row (d ∷ ds) = λ i. (if one_numbered row.duty d.number i
    then with_duty_state (state_after row.word) d else d) ∷ sets_one row ds i

-- One more at the front of a run

more_numbered : (n last m : ℕ) → n + 1 ≤ last
    → (nat_le n m && nat_le m last) ≡ ((m == n) || (nat_le (n + 1) m && nat_le m last))
more_numbered n last m low = grind (arith, nat_tests)

twice : {X : Type 0} (w : X → X) (d : X) (b c : Bool) → ((x : X) → w (w x) ≡ w x) → c ≡ (b || true)
    → (if b then w (w d) else w d) ≡ (if c then w d else d)
twice w d true c same is = same d ∙ sym (ap (λ c. if c then w d else d) is)
twice w d false c same is = sym (ap (λ c. if c then w d else d) is)

once : {X : Type 0} (w : X → X) (d : X) (b c : Bool) → c ≡ (b || false)
    → (if b then w d else d) ≡ (if c then w d else d)
once w d true c is = sym (ap (λ c. if c then w d else d) is)
once w d false c is = sym (ap (λ c. if c then w d else d) is)

set_again : (n : ℕ) (to : DutyState) (d : DutyRow) (a c : Bool) → c ≡ ((d.number == n) || a)
    → (let e : DutyRow = if a then with_duty_state to d else d in
    if is_duty n e then with_duty_state to e else e) ≡ (if c then with_duty_state to d else d)
set_again n to d true c is = twice (with_duty_state to) d (d.number == n) c (λ x. refl) is
set_again n to d false c is = once (with_duty_state to) d (d.number == n) c is

set_next : (n last : ℕ) (to : DutyState) → n + 1 ≤ last → (duties : List DutyRow)
    → updated (is_duty n) (with_duty_state to)
    (updated (is_numbered (n + 1) last) (with_duty_state to) duties)
    ≡ updated (is_numbered n last) (with_duty_state to) duties
set_next n last to low [] = refl
set_next n last to low (d ∷ ds) = λ i. set_again n to d (is_numbered (n + 1) last d)
    (is_numbered n last d) (more_numbered n last d.number low) i ∷ set_next n last to low ds i

pub sets_next : (row : ChangeRow) (run : List ChangeRow) (first last : ℕ) (to : DutyState)
    → row.duty + 1 ≡ first → first ≤ last → state_after row.word ≡ to → Sets run first last to
    → Sets (row ∷ run) row.duty last to
sets_next row run first last to next low leaves sets duties =
    (λ i. updated (is_duty row.duty) (with_duty_state (leaves i)) (sets duties i))
    ∙ ap (λ k. updated (is_duty row.duty) (with_duty_state to)
    (updated (is_numbered k last) (with_duty_state to) duties)) (sym next)
    ∙ set_next row.duty last to (omega arith) duties

-- Changes before others

pub moved_both : (xs ys : List ChangeRow) (duties : List DutyRow)
    → moved_by (xs ++ ys) duties ≡ moved_by xs (moved_by ys duties)
moved_both [] ys duties = refl
moved_both (x ∷ xs) ys duties = ap (updated (is_duty x.duty) (with_duty_state (state_after x.word)))
    (moved_both xs ys duties)
