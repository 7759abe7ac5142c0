-- Each move of a duty is allowed after those before it, and each is one that may be written.
use Rattle.std.proofs.Common.{◌≡◌, ℕ, ◌+◌, ◌<◌, Bool, true, false, List, [], ◌∷◌, length, Option}
use Rattle.std.proofs.Common.{Some, None, refl, sym, ap, ◌∙◌, subst, arith, inl, inr}
use Rattle.std.specs.Prelude.{pos, IsTrue, not, nat_lt, nat_le, int_le, ◌&&◌, ◌==◌}
use Rattle.std.specs.Option.{option_map, option_map_or, option_and_then}
use Rattle.std.specs.Str.{bytes_eq}
use Rattle.std.proofs.lemmas.Bool.Decides.{nat_tests}
use Rattle.desk_base.specs.Day.{is_day}
use Rattle.desk_base.proofs.Bools.{and_left, and_right}
use Rattle.desk_base.proofs.Numbers.{numbers_equal}
use Rattle.desk_base.proofs.Texts.{texts_equal}
use Rattle.desk_base.proofs.Lists.{is_there}
use Rattle.desk_model.specs.Lists.{IsIn}
use Rattle.desk_model.specs.Readings.{Readings}
use Rattle.desk_model.specs.History.{state_of}
use Rattle.desk_model.specs.Raised.{numbered, owed_at, raised}
use Rattle.desk_model.specs.States.{goes_from, is_met, state_after}
use Rattle.desk_model.specs.Texts.{is_note}
use Rattle.desk_model.specs.Moves.{change_row, duty_at, end_after, has_ended, is_known, is_over}
use Rattle.desk_model.specs.Moves.{is_raised_for, move_by, move_if, moves, place, place_after}
use Rattle.desk_model.specs.Moves.{raises, with_move}
use Rattle.desk_model.specs.Answers.{answer, gone, is_recorded, IsHistory, moving, move_answer, settled}
use Rattle.desk_model.specs.declared.row.Move.{Move}
use Rattle.desk_model.specs.declared.row.Owed.{Owed}
use Rattle.desk_model.specs.declared.state.DutyState.{DutyState}
use Rattle.desk_model.specs.declared.state.DutyState.TheVariants as stands
use Rattle.desk_model.specs.declared.state.ReleaseState.{ReleaseState}
use Rattle.desk_model.specs.declared.state.ReleaseState.TheVariants as release
use Rattle.desk_model.specs.declared.state.Word.{Word}
use Rattle.desk_model.specs.declared.state.Word.TheVariants as word
use Rattle.desk_model.specs.declared.refusal.Refusal.TheVariants as why
use Rattle.desk_model.specs.declared.command.Command.{Command}
use Rattle.desk_model.specs.declared.command.Command.TheVariants.{Freeze, Meet, Waive, Reopen, Withdraw, CloseDay}
use Rattle.desk_model.proofs.Lists.{found_in}
use Rattle.desk_snapshot.specs.Changes.{is_formed, is_waiver_of, may_move}
use Rattle.desk_snapshot.specs.Tables.{change_stored}
use Rattle.desk_history_laws.proofs.Recorded.{Allows, allows, closes, freezes, withdraws}
use Rattle.desk_history_laws.proofs.Duties.{move, new_raised, raised_cases, suited, suits}
use Rattle.desk_history_laws.proofs.Bills.{is_mapped}
use Rattle.desk_history.proofs.Recorded.{is_so}
use Rattle.desk_history.proofs.Told.{is_moved, moved_more}
use Rattle.desk_history.proofs.Freezing.{unmoved}

-- a move is allowed after those before it
abbrev pub GoesOn : List Move → Move → Type 0
GoesOn [] m = m.word ≡ word.Raised
GoesOn (n ∷ ms) m = may_move (state_after n.word) n.last_day m.day m.word ≡ true

-- the last day of a waiver that ends
abbrev pub ends_well : Move → Bool
ends_well m = option_map_or (is_waiver_of (change_stored (change_row 0 0 m))) m.last_day true

abbrev pub IsWritten : List Move → Move → Type 0
IsWritten ms m = (is_formed (change_stored (change_row 0 (length ms + 1) m)) ≡ true)
    × (ends_well m ≡ true)

abbrev pub IsRun : List Move → Type 0
IsRun [] = Unit {0}
IsRun (m ∷ ms) = GoesOn ms m × IsWritten ms m × IsRun ms

-- ---- a duty that was raised has a move, one that wasn't has none

pub started : (w : Readings) (h : List Command) (d : ℕ × Owed) → IsIn d (numbered w h)
    → is_moved (moves w h d.0) ≡ true
started w [] d m = absurd m
started w (Freeze r day ∷ h) d m =
    elim (raised_cases w h r d m) [
      | inl old ↦ moved_more (move_by w d.0 (Freeze r day) h (moves w h d.0)) (moves w h d.0)
          (started w h d old)
      | inr new ↦ rw (new_raised w h r d new) refl
    ]
started w (c ∷ h) d m = moved_more (move_by w d.0 c h (moves w h d.0)) (moves w h d.0)
    (started w h d m)

-- ---- what each command may move

goes_on : (ms : List Move) (m : Move) → is_moved ms ≡ true
    → may_move (place_after ms) (end_after ms) m.day m.word ≡ true → GoesOn ms m
goes_on [] m e f = cc
goes_on (n ∷ ms) m e f = f

abbrev IsNamed : Word → Type 0
IsNamed by = ((p : DutyState) (end : Option (List ℕ)) (day : List ℕ) → goes_from by p ≡ true
    → may_move p end day by ≡ true)

met_from : IsNamed word.Met
met_from stands.IsOpen end day e = refl
met_from stands.Met end day e = cc
met_from stands.Waived end day e = cc
met_from stands.Withdrawn end day e = cc

waived_from : IsNamed word.Waived
waived_from stands.IsOpen end day e = refl
waived_from stands.Met end day e = cc
waived_from stands.Waived end day e = cc
waived_from stands.Withdrawn end day e = cc

reopened_from : IsNamed word.Reopened
reopened_from stands.IsOpen end day e = cc
reopened_from stands.Met end day e = refl
reopened_from stands.Waived end day e = refl
reopened_from stands.Withdrawn end day e = cc

withdrawn_from : (s : ReleaseState) (p : DutyState) (end : Option (List ℕ)) (day : List ℕ)
    → gone s ≡ None → suits s p ≡ true → not (is_met p) ≡ true
    → may_move p end day word.Withdrawn ≡ true
withdrawn_from s stands.IsOpen end day stays suit unmet = refl
withdrawn_from s stands.Met end day stays suit unmet = cc
withdrawn_from s stands.Waived end day stays suit unmet = refl
withdrawn_from release.IsOpen stands.Withdrawn end day stays suit unmet = cc
withdrawn_from release.Frozen stands.Withdrawn end day stays suit unmet = cc
withdrawn_from release.Withdrawn stands.Withdrawn end day stays suit unmet = cc

ended_from : (p : DutyState) (end : Option (List ℕ)) (day : List ℕ) → has_ended day p end ≡ true
    → may_move p end day word.Ended ≡ true
ended_from stands.IsOpen end day e = cc
ended_from stands.Met end day e = cc
ended_from stands.Waived end day e = e
ended_from stands.Withdrawn end day e = cc

-- a move by a command, or none
run_more : (b : Bool) (m : Move) (ms : List Move) → IsRun ms
    → (b ≡ true → GoesOn ms m × IsWritten ms m) → IsRun (with_move (move_if b m) ms)
run_more true m ms old new = ((new refl).0, (new refl).1, old)
run_more false m ms old new = old

room_for : (n : ℕ) → n < 999 → int_le (pos (n + 1)) (pos 999) ≡ true
room_for n lt = grind (arith, nat_tests)

waiver_by : (day text : List ℕ) (until : Option (List ℕ)) → option_map_or is_day until true ≡ true
    → is_over day until ≡ false → ends_well (move word.Waived day text until) ≡ true
waiver_by day text None dated over = refl
waiver_by day text (Some last) dated over = rw (dated, over) refl

settled_from : (by : Word) (p : DutyState) → settled by p ≡ None → goes_from by p ≡ true
settled_from by p e = is_so (goes_from by p) (why.DutyState p) e

abbrev IsNote : Word → Type 0
IsNote by = (day text : List ℕ) (until : Option (List ℕ)) (n : ℕ) → is_day day ≡ true
    → is_note text ≡ true → n < 999
    → is_formed (change_stored (change_row 0 (n + 1) (move by day text until))) ≡ true

met_note : IsNote word.Met
met_note day text until n dated note lt = rw (dated, note, room_for n lt) refl

waived_note : IsNote word.Waived
waived_note day text until n dated note lt = rw (dated, note, room_for n lt) refl

reopened_note : IsNote word.Reopened
reopened_note day text until n dated note lt = rw (dated, note, room_for n lt) refl

-- what a recorded Meet, Waive or Reopen gives the duty that it names
named : (w : Readings) (h : List Command) (by : Word) (q : ℕ) (day text : List ℕ)
    (until : Option (List ℕ)) → IsNamed by → IsNote by
    → ((all : Allows by day text until (moving w h q)) → ends_well (move by day text until) ≡ true)
    → IsTrue (is_recorded (move_answer by day text until (moving w h q)))
    → GoesOn (moves w h q) (move by day text until)
    × IsWritten (moves w h q) (move by day text until)
named w h by q day text until may note waiver recorded =
    let all = allows by day text until (moving w h q) recorded in
    let at = is_there (duty_at w h q)
    (is_mapped (λ (d : ℕ × Owed). place w h d.0) (duty_at w h q) all.known) in
    let d = at.0 in
    let found = found_in (λ (d : ℕ × Owed). d.0 == q) (numbered w h) d at.1 in
    let number : d.0 ≡ q = numbers_equal d.0 q found.1 in
    let moved : is_moved (moves w h q) ≡ true =
    subst (λ (k : ℕ). is_moved (moves w h k) ≡ true) number (started w h d found.0) in
    let placed : option_map (λ (d : ℕ × Owed). place w h d.0) (duty_at w h q) ≡ Some (place w h q) =
    ap (option_map (λ (d : ℕ × Owed). place w h d.0)) at.1
    ∙ ap (λ (k : ℕ). Some (place w h k)) number in
    let from : settled by (place w h q) ≡ None = ap (option_and_then (settled by)) (sym placed)
    ∙ all.from in (
      goes_on (moves w h q) (move by day text until) moved
          (may (place w h q) (end_after (moves w h q)) day (settled_from by (place w h q) from)),
      (note day text until (length (moves w h q)) all.dated all.note all.room, waiver all),
    )

named_run : (w : Readings) (h : List Command) (by : Word) (q : ℕ) (day text : List ℕ)
    (until : Option (List ℕ)) → IsNamed by → IsNote by
    → ((all : Allows by day text until (moving w h q)) → ends_well (move by day text until) ≡ true)
    → IsTrue (is_recorded (move_answer by day text until (moving w h q))) → (k : ℕ)
    → IsRun (moves w h k)
    → IsRun (with_move (move_if ((q == k) && is_known w h k) (move by day text until))
    (moves w h k))
named_run w h by q day text until may note waiver recorded k old =
    run_more ((q == k) && is_known w h k) (move by day text until) (moves w h k) old (λ e.
    let same : q ≡ k = numbers_equal q k (and_left (q == k) (is_known w h k) e) in
    subst (λ (k : ℕ). GoesOn (moves w h k) (move by day text until)
    × IsWritten (moves w h k) (move by day text until)) same
    (named w h by q day text until may note waiver recorded))

raised_run : (w : Readings) (h : List Command) (r day : List ℕ) (q : ℕ) → is_day day ≡ true
    → raises w h r q ≡ true → GoesOn (moves w h q) (move word.Raised day [] None)
    × IsWritten (moves w h q) (move word.Raised day [] None)
raised_run w h r day q dated e =
    let new : nat_lt (length (raised w h)) q ≡ true =
    and_left (nat_lt (length (raised w h)) q)
    (nat_le q (length (raised w h) + length (owed_at w h r))) e in
    let lt : length (raised w h) < q = grind (arith, nat_tests) in
    subst (λ (ms : List Move). GoesOn ms (move word.Raised day [] None)
    × IsWritten ms (move word.Raised day [] None)) (sym (unmoved w h q lt))
    (refl, (rw dated refl, refl))

-- a duty that was raised for a release
pub raised_for : (r : List ℕ) (o : Option (ℕ × Owed))
    → option_map_or (λ (d : ℕ × Owed). bytes_eq d.1.release r) o false ≡ true
    → (d : ℕ × Owed) × (o ≡ Some d) × (d.1.release ≡ r)
raised_for r None e = cc
raised_for r (Some d) e = (d, refl, texts_equal d.1.release r e)

withdrawn_run : (w : Readings) (h : List Command) (r day text : List ℕ) (q : ℕ) → IsHistory w h
    → IsTrue (is_recorded (answer w h (Withdraw r day text)))
    → (is_raised_for w h q r && not (is_met (place w h q))) ≡ true
    → GoesOn (moves w h q) (move word.Withdrawn day text None)
    × IsWritten (moves w h q) (move word.Withdrawn day text None)
withdrawn_run w h r day text q ok recorded e =
    let all = withdraws w h r day text recorded in
    let own = raised_for r (duty_at w h q)
    (and_left (is_raised_for w h q r) (not (is_met (place w h q))) e) in
    let d = own.0 in
    let found = found_in (λ (d : ℕ × Owed). d.0 == q) (numbered w h) d own.1 in
    let number : d.0 ≡ q = numbers_equal d.0 q found.1 in
    let moved : is_moved (moves w h q) ≡ true =
    subst (λ (k : ℕ). is_moved (moves w h k) ≡ true) number (started w h d found.0) in
    let suit : suits (state_of h d.1.release) (place w h q) ≡ true =
    subst (λ (k : ℕ). suits (state_of h d.1.release) (place w h k) ≡ true) number
    (suited w h ok d found.0) in
    let stays : gone (state_of h d.1.release) ≡ None =
    ap (λ (n : List ℕ). gone (state_of h n)) own.2 ∙ all.stands in (
      goes_on (moves w h q) (move word.Withdrawn day text None) moved
          (withdrawn_from (state_of h d.1.release) (place w h q) (end_after (moves w h q)) day stays
          suit (and_right (is_raised_for w h q r) (not (is_met (place w h q))) e)),
      (rw (all.dated, all.note) refl, refl),
    )

ended_run : (day : List ℕ) (ms : List Move) → is_day day ≡ true
    → has_ended day (place_after ms) (end_after ms) ≡ true
    → GoesOn ms (move word.Ended day [] None) × IsWritten ms (move word.Ended day [] None)
ended_run day [] dated e = cc
ended_run day (n ∷ ms) dated e = (
  ended_from (state_after n.word) n.last_day day e,
  (rw dated refl, refl),
)

pub runs : (w : Readings) (h : List Command) → IsHistory w h → (q : ℕ) → IsRun (moves w h q)
runs w [] ok q = tt
runs w (Freeze r day ∷ h) ok q =
    run_more (raises w h r q) (move word.Raised day [] None) (moves w h q) (runs w h ok.1 q)
    (raised_run w h r day q (let f = freezes w h r day ok.0 in f.dated))
runs w (Meet k day text ∷ h) ok q = named_run w h word.Met k day text None met_from met_note
    (λ all. refl) ok.0 q (runs w h ok.1 q)
runs w (Waive k day text until ∷ h) ok q = named_run w h word.Waived k day text until waived_from
    waived_note (λ all. waiver_by day text until all.ends all.over) ok.0 q (runs w h ok.1 q)
runs w (Reopen k day text ∷ h) ok q = named_run w h word.Reopened k day text None reopened_from
    reopened_note (λ all. refl) ok.0 q (runs w h ok.1 q)
runs w (Withdraw r day text ∷ h) ok q =
    run_more (is_raised_for w h q r && not (is_met (place w h q)))
    (move word.Withdrawn day text None) (moves w h q) (runs w h ok.1 q)
    (withdrawn_run w h r day text q ok.1 ok.0)
runs w (CloseDay day ∷ h) ok q =
    run_more (has_ended day (place w h q) (end_after (moves w h q))) (move word.Ended day [] None)
    (moves w h q) (runs w h ok.1 q) (ended_run day (moves w h q) (closes w h day ok.0))
runs w (c ∷ h) ok q = runs w h ok.1 q
