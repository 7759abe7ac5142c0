-- The last change of a duty gives its state.
use Rattle.std.proofs.Common.{◌≡◌, ℕ, ◌+◌, Bool, true, false, List, [], ◌∷◌, ◌++◌, length, Option}
use Rattle.std.proofs.Common.{Some, None, sym, refl, ap, ◌∙◌, subst, arith, length-append, add-one}
use Rattle.std.proofs.Common.{inl, inr}
use Rattle.std.specs.Prelude.{◌&&◌, nat_lt, nat_le}
use Rattle.std.specs.List.{enumerate_from, last_or}
use Rattle.std.specs.Option.{option_map}
use Rattle.std.proofs.lemmas.Bool.Decides.{nat_tests}
use Rattle.desk_model.specs.Lists.{IsIn}
use Rattle.desk_model.specs.Readings.{Readings}
use Rattle.desk_model.specs.declared.row.Owed.{Owed}
use Rattle.desk_model.specs.Raised.{raised, owed_at, numbered}
use Rattle.desk_model.specs.declared.row.Move.{Move}
use Rattle.desk_model.specs.Moves.{duties, duty_row, change_rows, change_row, move_by, moves, place}
use Rattle.desk_model.specs.Moves.{place_after, raises, with_move, all_changes}
use Rattle.desk_model.specs.States.{state_after}
use Rattle.desk_history.specs.Laws.{IsToldBy}
use Rattle.desk_history.proofs.Members.{from_map}
use Rattle.desk_history.proofs.Moving.{in_range, range_here}
use Rattle.desk_history.proofs.Moving.{changes-found}
use Rattle.desk_model.specs.declared.row.DutyRow.{DutyRow}
use Rattle.desk_model.specs.declared.command.Command.{Command}
use Rattle.desk_model.specs.declared.command.Command.TheVariants.{Freeze}

pub last_or-end : {A : Type 0} (o : Option A) (xs : List A) (x : A)
    → last_or o (xs ++ x ∷ []) ≡ Some x
last_or-end o [] x = refl
last_or-end o (y ∷ ys) x = last_or-end (Some y) ys x

abbrev pub is_moved : List Move → Bool
is_moved [] = false
is_moved (m ∷ ms) = true

rows_tell : (q : ℕ) (ms : List Move) → is_moved ms ≡ true
    → option_map (λ change. state_after change.word) (last_or None (change_rows q ms))
    ≡ Some (place_after ms)
rows_tell q [] e = cc
rows_tell q (m ∷ ms) e = ap (option_map (λ change. state_after change.word))
    (last_or-end None (change_rows q ms) (change_row q (length ms + 1) m))

-- a duty that was raised has a move
pub moved_more : (o : Option Move) (ms : List Move) → is_moved ms ≡ true
    → is_moved (with_move o ms) ≡ true
moved_more None ms e = e
moved_more (Some m) ms e = refl

still_moved : (w : Readings) (h : List Command) (q : ℕ) (c : Command)
    → is_moved (moves w h q) ≡ true → is_moved (moves w (c ∷ h) q) ≡ true
still_moved w h q c e = moved_more (move_by w q c h (moves w h q)) (moves w h q) e

now_moved : (q a b : ℕ) → in_range 1 q (a + b) ≡ true → in_range 1 q a ≡ false
    → (nat_lt a q && nat_le q (a + b)) ≡ true
now_moved q a b e f = grind (arith, nat_tests)

freeze_moves : (w : Readings) (h : List Command) (r day : List ℕ) (q : ℕ) (b : Bool)
    → in_range 1 q (length (raised w h)) ≡ b
    → in_range 1 q (length (raised w h) + length (owed_at w h r)) ≡ true
    → (in_range 1 q (length (raised w h)) ≡ true → is_moved (moves w h q) ≡ true)
    → is_moved (moves w (Freeze r day ∷ h) q) ≡ true
freeze_moves w h r day q true e f before = still_moved w h q (Freeze r day) (before e)
freeze_moves w h r day q false e f before = let here : raises w h r q ≡ true =
    now_moved q (length (raised w h)) (length (owed_at w h r)) f e in rw here refl

none_raised : (q : ℕ) → in_range 1 q 0 ≡ false
none_raised q = grind (arith, nat_tests)

raised_moved : (w : Readings) (h : List Command) (q : ℕ) → in_range 1 q (length (raised w h)) ≡ true
    → is_moved (moves w h q) ≡ true
raised_moved w [] q e = let no : in_range 1 q 0 ≡ false = none_raised q in cc
raised_moved w (Freeze r day ∷ h) q e =
    freeze_moves w h r day q (in_range 1 q (length (raised w h))) refl
    (ap (in_range 1 q) (sym (length-append (raised w h) (owed_at w h r))) ∙ e) (raised_moved w h q)
raised_moved w (c ∷ h) q e = still_moved w h q c (raised_moved w h q e)

later_in : (n q k : ℕ) → in_range (n + 1) q k ≡ true → in_range n q (k + 1) ≡ true
later_in n q k e = grind (arith, nat_tests)

numbers_in : {A : Type 0} (n : ℕ) (d : ℕ × A) (xs : List A) → IsIn d (enumerate_from n xs)
    → in_range n d.0 (length xs) ≡ true
numbers_in n d [] is = absurd is
numbers_in n d (x ∷ xs) is =
    rw (← add-one (length xs))
    (elim is [
      | inl e ↦ range_here n d.0 (length xs) (ap (λ p. p.0) e)
      | inr m ↦ later_in n d.0 (length xs) (numbers_in (n + 1) d xs m)
    ])

pub told : (w : Readings) (h : List Command) (duty : DutyRow) → IsIn duty (duties w h)
    → IsToldBy (all_changes w h) duty
told w h duty is =
    let found = from_map (λ (d : ℕ × Owed). duty_row (place w h d.0) d) duty (numbered w h) is in
    let q : ℕ = found.0.0 in
    let here : in_range 1 q (length (raised w h)) ≡ true =
    numbers_in 1 found.0 (raised w h) found.1 in
    subst (IsToldBy (all_changes w h)) found.2
    (ap (λ rows. option_map (λ change. state_after change.word) (last_or None rows))
    (changes-found w h q here)
    ∙ rows_tell q (moves w h q) (raised_moved w h q here))
