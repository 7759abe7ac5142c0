-- A move of a duty, from its reading to its answer.
use Rattle.std.proofs.Common.{◌≡◌, ℕ, Bool, true, false, List, Option, Some, None, sym, refl, ap, ◌∙◌}
use Rattle.std.specs.Prelude.{◌&&◌, [], ◌∷◌, not, nat_lt, is_some, unwrap_or}
use Rattle.std.specs.Option.{option_map, option_map_or, option_and_then}
use Rattle.desk_base.specs.Day.{is_day}
use Rattle.desk_model.specs.Texts.{is_note}
use Rattle.desk_model.specs.Tables.{Tables}
use Rattle.desk_model.specs.Answers.{refused_by, refused_first, unless, gone, settled}
use Rattle.desk_model.specs.declared.refusal.Refusal.TheVariants as why
use Rattle.desk_model.specs.declared.refusal.Limit.TheVariants as limit
use Rattle.desk_model.specs.declared.command.Answer.TheVariants as answered
use Rattle.desk_model.specs.declared.row.DutyRow.{DutyRow}
use Rattle.desk_model.specs.declared.state.ReleaseState.{ReleaseState}
use Rattle.desk_model.specs.declared.state.ReleaseState.TheVariants.{IsOpen}
use Rattle.desk_model.specs.declared.state.Word.{Word}
use Rattle.desk_history.specs.FromTables.{duty_found, release_state_found, state_found, steps_found}
use Rattle.desk_history.specs.FromTables.{moved_found, moved_change}
use Rattle.desk_model.specs.declared.row.Move.{Move}
use Rattle.std.specs.Prelude.{IfOk, Result, Ok, Err}
use Rattle.std.proofs.Common.{subst}
use Rattle.desk_model.specs.declared.command.Answer.{Answer}
use Rattle.desk_model.specs.declared.command.Fault.{Fault}
use Rattle.desk_model.specs.declared.command.Plan.{Plan}
use Rattle.desk_model.specs.Moves.{is_over}
use Rattle.desk_access.specs.Seen.{Seen, OfRows}
use Rattle.desk_access.specs.Plans.{IsPlan}
use Rattle.desk_duties.specs.declared.duty.Read.TheVariants as read
use Rattle.desk_duties.specs.Moving.{IsRead, move_here, move_known}

-- a duty that was found
pub here_known : (t : Tables) (word : Word) (q n : ℕ) (row : DutyRow) → duty_found t q ≡ Some row
    → n ≡ q → move_here word (unwrap_or (state_found t row.release) IsOpen) (steps_found t n)
    row.state ≡ move_known t word q
here_known t word q n row e number =
    ap (λ (k : ℕ). move_here word (unwrap_or (state_found t row.release) IsOpen) (steps_found t k)
    row.state) number
    ∙ sym (rw e refl)

-- days and a text for which nothing is refused
split : (a b c d : Bool) → not (a && b && c && d) ≡ false
    → (a && b ≡ true) × (c ≡ true) × (d ≡ true)
split true true true true e = (refl, refl, refl)
split true true true false e = cc
split true true false d e = cc
split true false c d e = cc
split false b c d e = cc

known_state : (word : Word) (state : ReleaseState) (steps : ℕ) (o : Option DutyRow)
    → refused_first (unless (is_some o) why.UnknownDuty ∷ gone state
    ∷ option_and_then (λ (row : DutyRow). settled word row.state) o
    ∷ unless (nat_lt steps 999) (why.Full limit.Changes) ∷ []) answered.Done
    ≡ refused_first (unless (is_some (option_map (λ (row : DutyRow). row.state) o)) why.UnknownDuty
    ∷ gone state ∷ option_and_then (settled word) (option_map (λ (row : DutyRow). row.state) o)
    ∷ unless (nat_lt steps 999) (why.Full limit.Changes) ∷ []) answered.Done
known_state word state steps None = refl
known_state word state steps (Some row) = refl

pub known_moved : (t : Tables) (word : Word) (q : ℕ) (day text : List ℕ) (until : Option (List ℕ))
    → refused_by day text until ≡ false → move_known t word q ≡ moved_found t word q day text until
known_moved t word q day text until e =
    let good = split (is_day day) (option_map_or is_day until true) (is_note text)
    (not (is_over day until)) e in
    known_state word (release_state_found t (duty_found t q)) (steps_found t q) (duty_found t q)
    ∙ sym (rw (good.0, good.1, good.2) refl)

pub same_change : (t : Tables) (n q : ℕ) (m : Move) → n ≡ q
    → moved_change t n m ≡ moved_change t q m
same_change t n q m e = ap (λ (k : ℕ). moved_change t k m) e

-- the plan for a move that was read
module _ {Left : Type 0} where
  pub moved_plan : (old new : Seen Left) (word : Word) (q : ℕ) (day text : List ℕ)
      (until : Option (List ℕ)) (made : Move) (r : Result Plan Fault)
      → IsRead word day text until (read.Move made)
      → IfOk r (λ plan. OfRows (λ t. IsPlan (move_known t made.word q) (moved_change t q made) plan)
      old new)
      → IfOk r (λ plan. OfRows (λ t. IsPlan (moved_found t word q day text until)
      (moved_change t q (record { day = day; word = word; body = text; last_day = until })) plan)
      old new)
  moved_plan old new word q day text until made (Ok plan) is p = λ h t held.
      subst (λ (a : Answer). IsPlan a
      (moved_change t q (record { day = day; word = word; body = text; last_day = until })) plan)
      (known_moved t word q day text until is.0)
      (subst (λ (m : Move). IsPlan (move_known t m.word q) (moved_change t q m) plan) is.1
      (p h t held))
  moved_plan old new word q day text until made (Err fault) is p = tt
