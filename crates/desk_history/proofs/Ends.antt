-- What a withdrawal and a CloseDay do to a duty.
use Rattle.std.proofs.Common.{◌≡◌, ◌⊎◌, ℕ, Bool, true, false, List, [], ◌∷◌, Option, Some, None}
use Rattle.std.proofs.Common.{refl, ap, ◌∙◌, inl, inr}
use Rattle.std.proofs.Math.Bool.{and-false}
use Rattle.std.specs.Prelude.{◌&&◌, not, if◌then◌else◌, unwrap_or}
use Rattle.std.specs.Option.{option_map_or}
use Rattle.desk_model.specs.Lists.{latest, or_else}
use Rattle.desk_model.specs.Texts.{is_before}
use Rattle.desk_model.specs.Readings.{Readings}
use Rattle.desk_model.specs.History.{choice, terms_given}
use Rattle.desk_model.specs.States.{is_met, is_waived, state_after}
use Rattle.desk_model.specs.Moves.{moves, place, place_after, end_after, has_ended, is_raised_for, move_if, with_move}
use Rattle.desk_model.specs.declared.row.Move.{Move}
use Rattle.desk_model.specs.declared.state.DutyState.{DutyState}
use Rattle.desk_model.specs.declared.state.DutyState.TheVariants as stands
use Rattle.desk_model.specs.declared.state.Word.{Word}
use Rattle.desk_model.specs.declared.state.Word.TheVariants as word
use Rattle.desk_model.specs.declared.command.Command.{Command}
use Rattle.desk_model.specs.declared.command.Command.TheVariants.{CloseDay, Withdraw}
use Rattle.desk_history.specs.Laws.{IsOver}
use Rattle.desk_base.proofs.Texts.{same_text}
use Rattle.desk_base.proofs.Bools.{and_left, and_right}

abbrev withdrawal : List ℕ → List ℕ → Move
withdrawal day text = record { day = day; word = word.Withdrawn; body = text; last_day = None }

pub met_stays : (w : Readings) (h : List Command) (r day text : List ℕ) (q : ℕ)
    → place w h q ≡ stands.Met → moves w (Withdraw r day text ∷ h) q ≡ moves w h q
met_stays w h r day text q e =
    let none : (is_raised_for w h q r && not (is_met (place w h q))) ≡ false =
    ap (λ (s : DutyState). is_raised_for w h q r && not (is_met s)) e
    ∙ and-false (is_raised_for w h q r) in
    ap (λ (b : Bool). with_move (move_if b (withdrawal day text)) (moves w h q)) none

pub other_withdrawn : (w : Readings) (h : List Command) (r day text : List ℕ) (q : ℕ)
    → is_raised_for w h q r ≡ true → is_met (place w h q) ≡ false
    → place w (Withdraw r day text ∷ h) q ≡ stands.Withdrawn
other_withdrawn w h r day text q e f =
    ap (λ (b : Bool). place_after (with_move (move_if b (withdrawal day text)) (moves w h q)))
    (ap (λ (a : Bool). a && not (is_met (place w h q))) e ∙ ap not f)

pub none_chosen : (w : Readings) (h : List Command) (r day text : List ℕ) (d : ℕ) (p : List ℕ)
    → choice w (Withdraw r day text ∷ h) r d p ≡ []
none_chosen w h r day text d p = ap (λ (b : Bool). unwrap_or
    (or_else (if b then Some [] else None) (latest (terms_given w r d p) h)) []) (same_text r)

-- the end of waivers

abbrev ending : List ℕ → Move
ending day = record { day = day; word = word.Ended; body = []; last_day = None }

ended : (ms : List Move) (day : List ℕ) (last : Move) (before : List Move) (end : List ℕ)
    → ms ≡ last ∷ before → last.word ≡ word.Waived → last.last_day ≡ Some end
    → is_before end day ≡ true → has_ended day (place_after ms) (end_after ms) ≡ true
ended ms day last before end e waives until over =
    ap (λ (xs : List Move). has_ended day (place_after xs) (end_after xs)) e
    ∙ (ap (λ (k : Word). has_ended day (state_after k) last.last_day) waives
    ∙ (ap (has_ended day stands.Waived) until ∙ over))

pub opens : (w : Readings) (h : List Command) (day : List ℕ) (q : ℕ) → IsOver w h day q
    → place w (CloseDay day ∷ h) q ≡ stands.IsOpen
opens w h day q is =
    ap (λ (b : Bool). place_after (with_move (move_if b (ending day)) (moves w h q)))
    (ended (moves w h q) day is.last is.before is.end is.is is.waives is.until is.over)

waived_word : (k : Word) → is_waived (state_after k) ≡ true → k ≡ word.Waived
waived_word word.Raised e = cc
waived_word word.Met e = cc
waived_word word.Waived e = refl
waived_word word.Reopened e = cc
waived_word word.Withdrawn e = cc
waived_word word.Ended e = cc

over_by : (w : Readings) (h : List Command) (day : List ℕ) (q : ℕ) (last : Move)
    (before : List Move) (end : Option (List ℕ)) → moves w h q ≡ last ∷ before
    → last.word ≡ word.Waived → last.last_day ≡ end
    → option_map_or (λ (l : List ℕ). is_before l day) end false ≡ true → IsOver w h day q
over_by w h day q last before None e waives until over = cc
over_by w h day q last before (Some end) e waives until over = record {
  last = last;
  before = before;
  end = end;
  is = e;
  waives = waives;
  until = until;
  over = over;
}

over_from : (w : Readings) (h : List Command) (day : List ℕ) (q : ℕ) (ms : List Move)
    → moves w h q ≡ ms → has_ended day (place_after ms) (end_after ms) ≡ true → IsOver w h day q
over_from w h day q [] e f = cc
over_from w h day q (m ∷ ms) e f =
    over_by w h day q m ms m.last_day e
    (waived_word m.word (and_left (is_waived (state_after m.word))
    (option_map_or (λ (l : List ℕ). is_before l day) m.last_day false) f)) refl
    (and_right (is_waived (state_after m.word))
    (option_map_or (λ (l : List ℕ). is_before l day) m.last_day false) f)

ends_only : (w : Readings) (h : List Command) (day : List ℕ) (q : ℕ) (b : Bool)
    → has_ended day (place w h q) (end_after (moves w h q)) ≡ b
    → (with_move (move_if b (ending day)) (moves w h q) ≡ moves w h q) ⊎ IsOver w h day q
ends_only w h day q true e = inr (over_from w h day q (moves w h q) refl e)
ends_only w h day q false e = inl refl

pub moves_only : (w : Readings) (h : List Command) (day : List ℕ) (q : ℕ)
    → (moves w (CloseDay day ∷ h) q ≡ moves w h q) ⊎ IsOver w h day q
moves_only w h day q = ends_only w h day q (has_ended day (place w h q) (end_after (moves w h q)))
    refl
