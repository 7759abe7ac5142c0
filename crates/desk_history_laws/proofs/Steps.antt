-- A duty has few changes: at most so many for each state.
use Rattle.std.proofs.Common.{◌≡◌, ◌≢◌, ℕ, ◌+◌, ◌<◌, ◌≤◌, Bool, true, false, cond, List, [], ◌∷◌}
use Rattle.std.proofs.Common.{◌++◌, length, Option, Some, None, sym, refl, ap, ◌∙◌, subst, arith}
use Rattle.std.proofs.Common.{add-one, inl, inr}
use Rattle.std.specs.Prelude.{IsTrue, is_some, find, not, nat_lt, nat_le, ◌&&◌, ◌==◌, if◌then◌else◌, unwrap_or}
use Rattle.std.specs.List.{enumerate_from}
use Rattle.std.specs.Option.{option_map, option_map_or, option_and_then}
use Rattle.std.specs.Str.{bytes_eq}
use Rattle.desk_base.specs.Day.{is_day}
use Rattle.desk_base.proofs.Bools.{and_left, and_right}
use Rattle.desk_base.proofs.Numbers.{numbers_equal}
use Rattle.desk_base.proofs.Texts.{text_tells, same_text}
use Rattle.desk_model.specs.Lists.{latest, or_else}
use Rattle.desk_model.specs.Texts.{is_before, is_note}
use Rattle.desk_model.specs.Readings.{Readings}
use Rattle.desk_model.specs.History.{form_of, state_of, state_given}
use Rattle.desk_model.specs.Raised.{raised, owed_at}
use Rattle.desk_model.specs.States.{is_met, is_waived, state_after}
use Rattle.desk_model.specs.Moves.{duty_at, is_raised_for, raises, is_known, has_ended, end_after}
use Rattle.desk_model.specs.Moves.{move_if, with_move, moves, place, place_after, changes}
use Rattle.desk_model.specs.Answers.{answer, IsHistory, is_recorded, unless, gone, Moving, move_answer, moving}
use Rattle.desk_model.specs.declared.row.Owed.{Owed}
use Rattle.desk_model.specs.declared.row.Move.{Move}
use Rattle.desk_model.specs.declared.state.DutyState.{DutyState}
use Rattle.desk_model.specs.declared.state.DutyState.TheVariants as stands
use Rattle.desk_model.specs.declared.state.ReleaseState.{ReleaseState}
use Rattle.desk_model.specs.declared.state.ReleaseState.TheVariants as release
use Rattle.desk_model.specs.declared.state.Word.{Word}
use Rattle.desk_model.specs.declared.state.Word.TheVariants as word
use Rattle.desk_model.specs.declared.refusal.Refusal.TheVariants as why
use Rattle.desk_model.specs.declared.command.Command.{Command}
use Rattle.desk_model.specs.declared.command.Command.TheVariants.{Freeze, Meet, Waive, Reopen, Withdraw, CloseDay}
use Rattle.desk_history.proofs.OwnKeys.{open_at}
use Rattle.desk_history.proofs.Recorded.{past, is_so}
use Rattle.desk_history.proofs.Moving.{length-change_rows, less_by}
use Rattle.desk_history.proofs.Freezing.{unmoved}
use Rattle.desk_history_laws.proofs.Recorded.{allows}
use Rattle.desk_history_laws.proofs.Runs.{raised_for}

-- What a recorded command looked up

-- Meet, Waive and Reopen: raised_fewer changes than the limit
steps_below : (word : Word) (day text : List ℕ) (until : Option (List ℕ)) (found : Moving)
    → IsTrue (is_recorded (move_answer word day text until found)) → found.steps < 999
steps_below word day text until found e = (allows word day text until found e).room

-- Withdraw: a release that is not withdrawn
not_gone : (s : ReleaseState) (form : Option (List ℕ))
    → is_some (option_map (λ (f : List ℕ). s) form) ≡ true
    → option_and_then gone (option_map (λ (f : List ℕ). s) form) ≡ None → s ≡ release.Withdrawn → ⊥
not_gone s None known e same = cc
not_gone s (Some f) known e same = let refused : gone s ≡ gone release.Withdrawn = ap gone same in
    cc

standing : (w : Readings) (h : List Command) (r day text : List ℕ)
    → IsTrue (is_recorded (answer w h (Withdraw r day text)))
    → state_of h r ≡ release.Withdrawn → ⊥
standing w h r day text e =
    let found = option_map (λ (f : List ℕ). state_of h r) (form_of h r) in
    let one = past (unless (is_day day) why.BadDay) _ e in
    let two = past (unless (is_note text) why.BadText) _ one.1 in
    let three = past (unless (is_some found) why.UnknownRelease) _ two.1 in
    let four = past (option_and_then gone found) _ three.1 in
    not_gone (state_of h r) (form_of h r) (is_so (is_some found) why.UnknownRelease three.0) four.0

-- A duty that is not raised yet has no moves

abbrev move : Word → List ℕ → List ℕ → Option (List ℕ) → Move
move word day text until = record { day = day; word = word; body = text; last_day = until }

-- The release of a duty that is withdrawn is withdrawn

abbrev IsGone : Readings → List Command → ℕ → Type 0
IsGone w h q = (d : ℕ × Owed) × (duty_at w h q ≡ Some d)
    × (state_of h d.1.release ≡ release.Withdrawn)

found_step : (here later later' : Option (ℕ × Owed)) (d : ℕ × Owed) (b : Bool)
    → (later ≡ Some d → later' ≡ Some d)
    → cond b here later ≡ Some d → cond b here later' ≡ Some d
found_step here later later' d true rest e = e
found_step here later later' d false rest e = rest e

found_stays : (q n : ℕ) (xs ys : List Owed) (d : ℕ × Owed)
    → find (λ (d : ℕ × Owed). d.0 == q) (enumerate_from n xs) ≡ Some d
    → find (λ (d : ℕ × Owed). d.0 == q) (enumerate_from n (xs ++ ys)) ≡ Some d
found_stays q n [] ys d e = cc
found_stays q n (x ∷ xs) ys d e =
    found_step (Some (n, x)) (find (λ (d : ℕ × Owed). d.0 == q) (enumerate_from (n + 1) xs))
    (find (λ (d : ℕ × Owed). d.0 == q) (enumerate_from (n + 1) (xs ++ ys))) d (n == q)
    (found_stays q (n + 1) xs ys d) e

duty_stays : (w : Readings) (c : Command) (h : List Command) (q : ℕ) (d : ℕ × Owed)
    → duty_at w h q ≡ Some d → duty_at w (c ∷ h) q ≡ Some d
duty_stays w (Freeze r day) h q d e = found_stays q 1 (raised w h) (owed_at w h r) d e
duty_stays w c h q d e = e

withdrawn_over : (b : Bool) (o : Option ReleaseState)
    → unwrap_or o release.IsOpen ≡ release.Withdrawn
    → unwrap_or (or_else (if b then Some release.Withdrawn else None) o) release.IsOpen
    ≡ release.Withdrawn
withdrawn_over true o e = refl
withdrawn_over false o e = e

-- a withdrawn release isn't frozen again
state_stays : (w : Readings) (c : Command) (h : List Command) (r : List ℕ)
    → IsTrue (is_recorded (answer w h c))
    → state_of h r ≡ release.Withdrawn → state_of (c ∷ h) r ≡ release.Withdrawn
state_stays w (Freeze r' day) h r recorded e =
    elim (text_tells r' r) [
      | inl same ↦ (let opened : state_of h r' ≡ release.IsOpen = open_at w h r' day recorded in
          let old : state_of h r' ≡ release.Withdrawn = ap (state_of h) same.1 ∙ e in cc)
      | inr differ ↦ rw differ.0 e
    ]
state_stays w (Withdraw r' day text) h r recorded e = withdrawn_over (bytes_eq r' r)
    (latest (state_given r) h) e
state_stays w c h r recorded e = e

gone_stays : (w : Readings) (c : Command) (h : List Command) (q : ℕ)
    → IsTrue (is_recorded (answer w h c)) → IsGone w h q → IsGone w (c ∷ h) q
gone_stays w c h q recorded is = (
  is.0,
  duty_stays w c h q is.0 is.1,
  state_stays w c h is.0.1.release recorded is.2,
)

gone_now : (w : Readings) (h : List Command) (r day text : List ℕ) (q : ℕ)
    → is_raised_for w h q r ≡ true → IsGone w (Withdraw r day text ∷ h) q
gone_now w h r day text q e =
    let own = raised_for r (duty_at w h q) e in
    let now : state_of (Withdraw r day text ∷ h) r ≡ release.Withdrawn = rw (same_text r) refl in
    (own.0, own.1, ap (state_of (Withdraw r day text ∷ h)) own.2 ∙ now)

before_move : (b : Bool) (m : Move) (ms : List Move) → state_after m.word ≢ stands.Withdrawn
    → place_after (with_move (move_if b m) ms) ≡ stands.Withdrawn
    → place_after ms ≡ stands.Withdrawn
before_move true m ms other e = absurd (other e)
before_move false m ms other e = e

by_withdrawal : (w : Readings) (h : List Command) (r day text : List ℕ) (q : ℕ) (b : Bool)
    → (is_raised_for w h q r && not (is_met (place w h q))) ≡ b
    → IsTrue (is_recorded (answer w h (Withdraw r day text)))
    → (place w h q ≡ stands.Withdrawn → IsGone w h q)
    → place_after (with_move (move_if b (move word.Withdrawn day text None)) (moves w h q))
    ≡ stands.Withdrawn → IsGone w (Withdraw r day text ∷ h) q
by_withdrawal w h r day text q true is recorded rest e =
    gone_now w h r day text q (and_left (is_raised_for w h q r) (not (is_met (place w h q))) is)
by_withdrawal w h r day text q false is recorded rest e = gone_stays w (Withdraw r day text) h q
    recorded (rest e)

withdrawn_gone : (w : Readings) (h : List Command) (q : ℕ) → IsHistory w h
    → place w h q ≡ stands.Withdrawn → IsGone w h q
withdrawn_gone w [] q ok e = cc
withdrawn_gone w (Freeze r day ∷ h) q ok e =
    gone_stays w (Freeze r day) h q ok.0 (withdrawn_gone w h q ok.1
    (before_move (raises w h r q) (move word.Raised day [] None) (moves w h q) (λ f. cc) e))
withdrawn_gone w (Meet q' day text ∷ h) q ok e =
    gone_stays w (Meet q' day text) h q ok.0 (withdrawn_gone w h q ok.1
    (before_move ((q' == q) && is_known w h q) (move word.Met day text None) (moves w h q) (λ f. cc)
    e))
withdrawn_gone w (Waive q' day text until ∷ h) q ok e =
    gone_stays w (Waive q' day text until) h q ok.0 (withdrawn_gone w h q ok.1
    (before_move ((q' == q) && is_known w h q) (move word.Waived day text until) (moves w h q)
    (λ f. cc) e))
withdrawn_gone w (Reopen q' day text ∷ h) q ok e =
    gone_stays w (Reopen q' day text) h q ok.0 (withdrawn_gone w h q ok.1
    (before_move ((q' == q) && is_known w h q) (move word.Reopened day text None) (moves w h q)
    (λ f. cc) e))
withdrawn_gone w (Withdraw r day text ∷ h) q ok e =
    by_withdrawal w h r day text q (is_raised_for w h q r && not (is_met (place w h q))) refl ok.0
    (withdrawn_gone w h q ok.1) e
withdrawn_gone w (CloseDay day ∷ h) q ok e =
    gone_stays w (CloseDay day) h q ok.0 (withdrawn_gone w h q ok.1
    (before_move (has_ended day (place w h q) (end_after (moves w h q)))
    (move word.Ended day [] None) (moves w h q) (λ f. cc) e))
withdrawn_gone w (c ∷ h) q ok e = gone_stays w c h q ok.0 (withdrawn_gone w h q ok.1 e)

-- so no duty is withdrawn twice
not_twice : (w : Readings) (h : List Command) (r day text : List ℕ) (q : ℕ) → IsHistory w h
    → IsTrue (is_recorded (answer w h (Withdraw r day text)))
    → is_raised_for w h q r ≡ true → place w h q ≡ stands.Withdrawn → ⊥
not_twice w h r day text q ok recorded mine e =
    let is = withdrawn_gone w h q ok e in
    let own = raised_for r (duty_at w h q) mine in
    let found : Some is.0 ≡ Some own.0 = sym is.1 ∙ own.1 in
    let same : is.0 ≡ own.0 = cc in
    let named : is.0.1.release ≡ r = ap (λ (d : ℕ × Owed). d.1.release) same ∙ own.2 in
    standing w h r day text recorded (ap (state_of h) (sym named) ∙ is.2)

-- How many moves a duty has in each state

abbrev Within : DutyState → ℕ → Type 0
Within stands.IsOpen n = n ≤ 1000
Within stands.Met n = n ≤ 999
Within stands.Waived n = n ≤ 999
Within stands.Withdrawn n = n ≤ 1001

within_all : (s : DutyState) (n : ℕ) → Within s n → n ≤ 1001
within_all stands.IsOpen n le = omega arith
within_all stands.Met n le = omega arith
within_all stands.Waived n le = omega arith
within_all stands.Withdrawn n le = le

within_moved : (b : Bool) (m : Move) (ms : List Move) → Within (place_after ms) (length ms)
    → (b ≡ true → Within (state_after m.word) (length ms + 1))
    → Within (place_after (with_move (move_if b m) ms)) (length (with_move (move_if b m) ms))
within_moved true m ms old new = subst (λ n. Within (state_after m.word) n) (add-one (length ms))
    (new refl)
within_moved false m ms old new = old

-- one more, by each command

raised_within : (w : Readings) (h : List Command) (r : List ℕ) (q : ℕ) → raises w h r q ≡ true
    → length (moves w h q) + 1 ≤ 1000
raised_within w h r q e =
    let new : length (raised w h) < q =
    less_by (length (raised w h)) q (and_left (nat_lt (length (raised w h)) q)
    (nat_le q (length (raised w h) + length (owed_at w h r))) e) in
    let none : length (moves w h q) ≡ 0 = ap (λ (ms : List Move). length ms) (unmoved w h q new) in
    omega arith

named_within : (w : Readings) (h : List Command) (word : Word) (q' : ℕ) (day text : List ℕ)
    (until : Option (List ℕ)) (q : ℕ)
    → IsTrue (is_recorded (move_answer word day text until (moving w h q')))
    → ((q' == q) && is_known w h q) ≡ true → length (moves w h q) + 1 ≤ 999
named_within w h word q' day text until q recorded e =
    let same : q' ≡ q = numbers_equal q' q (and_left (q' == q) (is_known w h q) e) in
    let below : length (moves w h q') < 999 =
    steps_below word day text until (moving w h q') recorded in
    subst (λ k. length (moves w h k) + 1 ≤ 999) same (omega arith)

reopened_within : (n : ℕ) → n + 1 ≤ 999 → n + 1 ≤ 1000
reopened_within n le = omega arith

unmet_within : (s : DutyState) (n : ℕ) → not (is_met s) ≡ true → (s ≡ stands.Withdrawn → ⊥)
    → Within s n → n + 1 ≤ 1001
unmet_within stands.IsOpen n unmet there le = omega arith
unmet_within stands.Met n unmet there le = cc
unmet_within stands.Waived n unmet there le = omega arith
unmet_within stands.Withdrawn n unmet there le = absurd (there refl)

waived_within : (s : DutyState) (n : ℕ) → is_waived s ≡ true → Within s n → n + 1 ≤ 1000
waived_within stands.IsOpen n waived le = cc
waived_within stands.Met n waived le = cc
waived_within stands.Waived n waived le = omega arith
waived_within stands.Withdrawn n waived le = cc

waived_first : (day : List ℕ) (s : DutyState) (end : Option (List ℕ)) → has_ended day s end ≡ true
    → is_waived s ≡ true
waived_first day s end e = and_left (is_waived s)
    (option_map_or (λ last. is_before last day) end false) e

moves_within : (w : Readings) (h : List Command) (q : ℕ) → IsHistory w h
    → Within (place w h q) (length (moves w h q))
moves_within w [] q ok = omega arith
moves_within w (Freeze r day ∷ h) q ok =
    within_moved (raises w h r q) (move word.Raised day [] None) (moves w h q)
    (moves_within w h q ok.1) (raised_within w h r q)
moves_within w (Meet q' day text ∷ h) q ok =
    within_moved ((q' == q) && is_known w h q) (move word.Met day text None) (moves w h q)
    (moves_within w h q ok.1)
    (named_within w h word.Met q' day text None q ok.0)
moves_within w (Waive q' day text until ∷ h) q ok =
    within_moved ((q' == q) && is_known w h q) (move word.Waived day text until) (moves w h q)
    (moves_within w h q ok.1)
    (named_within w h word.Waived q' day text until q ok.0)
moves_within w (Reopen q' day text ∷ h) q ok =
    within_moved ((q' == q) && is_known w h q) (move word.Reopened day text None) (moves w h q)
    (moves_within w h q ok.1)
    (λ e. reopened_within (length (moves w h q))
    (named_within w h word.Reopened q' day text None q ok.0 e))
moves_within w (Withdraw r day text ∷ h) q ok =
    let old = moves_within w h q ok.1 in
    let unmet = not (is_met (place w h q)) in
    within_moved (is_raised_for w h q r && unmet) (move word.Withdrawn day text None) (moves w h q)
    old (λ e.
    unmet_within (place w h q) (length (moves w h q)) (and_right (is_raised_for w h q r) unmet e)
    (not_twice w h r day text q ok.1 ok.0 (and_left (is_raised_for w h q r) unmet e)) old)
moves_within w (CloseDay day ∷ h) q ok =
    let old = moves_within w h q ok.1 in
    let end = end_after (moves w h q) in
    within_moved (has_ended day (place w h q) end) (move word.Ended day [] None) (moves w h q) old
    (λ e.
    waived_within (place w h q) (length (moves w h q)) (waived_first day (place w h q) end e) old)
moves_within w (c ∷ h) q ok = moves_within w h q ok.1

-- each move is a change

pub few_changes : (w : Readings) (h : List Command) → IsHistory w h → (q : ℕ)
    → length (changes w h q) ≤ 1001
few_changes w h ok q =
    let few = within_all (place w h q) (length (moves w h q)) (moves_within w h q ok) in
    omega (arith, length-change_rows q (moves w h q))
