-- None of a recorded command's refusals applied.
use Rattle.std.proofs.Common.{◌≡◌, ℕ, Bool, true, false, List, Option, Some, None, refl}
use Rattle.std.specs.Prelude.{IsTrue, is_some}
use Rattle.std.specs.List.{filter_map}
use Rattle.std.specs.Option.{option_and_then, option_map}
use Rattle.desk_model.specs.Readings.{Readings}
use Rattle.desk_model.specs.Answers.{Choosing, choose_answer, first_bad, is_recorded, is_shipped}
use Rattle.desk_model.specs.Answers.{not_enough, not_minimal, refused_or, unconcluded, unless}
use Rattle.desk_model.specs.Answers.{unready, verdict_on}
use Rattle.desk_model.specs.declared.command.Answer.{Answer}
use Rattle.desk_model.specs.declared.refusal.Refusal.{Refusal}
use Rattle.desk_model.specs.declared.refusal.Refusal.TheVariants as why
use Rattle.desk_model.specs.declared.state.ReleaseState.{ReleaseState}
use Rattle.desk_model.specs.declared.state.ReleaseState.TheVariants.{IsOpen, Frozen, Withdrawn}

-- the first of its refusals doesn't apply, and it is recorded after the others
pub past : (o : Option Refusal) (a : Answer) → IsTrue (is_recorded (refused_or o a))
    → (o ≡ None) × IsTrue (is_recorded a)
past None a e = (refl, e)
past (Some refusal) a e = absurd (cc)

pub is_so : (so : Bool) (refusal : Refusal) → unless so refusal ≡ None → so ≡ true
is_so true refusal e = refl
is_so false refusal e = cc

pub is_ready : (o : Option ReleaseState) → is_some o ≡ true → option_and_then unready o ≡ None
    → o ≡ Some IsOpen
is_ready None known e = cc
is_ready (Some IsOpen) known e = refl
is_ready (Some Frozen) known e = cc
is_ready (Some Withdrawn) known e = cc

-- what a recorded choice looked up
pub record Chooses (w : Readings) (texts : List (List ℕ)) (found : Choosing) : Type 0 where
  pub has_release : is_some found.state ≡ true
  pub has_document : found.has_document ≡ true
  pub has_package : is_some found.row ≡ true
  pub opened : found.state ≡ Some IsOpen
  pub ships : is_shipped found ≡ true
  pub concluded : option_and_then (unconcluded found.conclusion) found.row ≡ None
  pub enough : option_and_then not_enough (verdict_on w found.conclusion (filter_map w.term texts))
      ≡ None
  pub minimal : option_and_then (not_minimal (filter_map w.term texts))
      (verdict_on w found.conclusion (filter_map w.term texts)) ≡ None

pub chooses : (w : Readings) (texts : List (List ℕ)) (found : Choosing)
    → IsTrue (is_recorded (choose_answer w texts found)) → Chooses w texts found
chooses w texts found e =
    let terms = filter_map w.term texts in
    let one = past (option_map (λ i. why.BadTerm i) (first_bad w 0 texts)) _ e in
    let two = past (unless (is_some found.state) why.UnknownRelease) _ one.1 in
    let three = past (unless found.has_document why.UnknownDocument) _ two.1 in
    let four = past (unless (is_some found.row) why.UnknownPackage) _ three.1 in
    let five = past (option_and_then unready found.state) _ four.1 in
    let six = past (unless (is_shipped found) why.NotShipped) _ five.1 in
    let seven = past (option_and_then (unconcluded found.conclusion) found.row) _ six.1 in
    let eight = past (option_and_then not_enough (verdict_on w found.conclusion terms)) _ seven.1 in
    let nine = past (option_and_then (not_minimal terms) (verdict_on w found.conclusion terms)) _
    eight.1 in
    let known = is_so (is_some found.state) why.UnknownRelease two.0 in
    record {
      has_release = known;
      has_document = is_so found.has_document why.UnknownDocument three.0;
      has_package = is_so (is_some found.row) why.UnknownPackage four.0;
      opened = is_ready found.state known five.0;
      ships = is_so (is_shipped found) why.NotShipped six.0;
      concluded = seven.0;
      enough = eight.0;
      minimal = nine.0;
    }
