-- What a store does over tables, a desk does over the histories that have these tables.
use Rattle.std.proofs.Common.{◌≡◌, inl, inr, true, Result, Ok, Err, sym, ap, subst, ◌∙◌}
use Rattle.std.specs.Prelude.{IfOk}
use Rattle.desk_model.specs.Readings.{Readings}
use Rattle.desk_model.specs.Tables.{Tables, tables, applied}
use Rattle.desk_model.specs.Answers.{answer, is_recorded}
use Rattle.desk_model.specs.Queries.{queried}
use Rattle.desk_model.specs.declared.command.Answer.{Answer}
use Rattle.desk_model.specs.declared.command.Command.{Command}
use Rattle.desk_model.specs.declared.command.Fault.{Fault}
use Rattle.desk_model.specs.declared.command.Query.{Query}
use Rattle.desk_history.specs.FromTables.{answer_from, change_for, queried_from}
use Rattle.desk_history.proofs.Steps.{step-answer, recorded-rows}
use Rattle.desk_history.proofs.Queries.{query-answer}
use Rattle.desk_access.specs.Seen.{Seen, OfRows, Decides}
use Rattle.desk_core.specs.Desks.{CarriesOut, InHistory}

module _ {Left : Type 0} where
  pub carries_out : (stands : Left → Tables → Type 0) (w : Readings) (c : Command)
      (old new : Seen Left) (r : Result Answer Fault)
      → Decides stands (λ _. Unit {0}) (λ t. t) (λ t. applied (change_for w t c) t)
      (λ t. answer_from w t c) old new r → CarriesOut stands w c old new r
  carries_out stands w c old new (Ok a) d = record {
    right = λ h i ok held. d.right h (tables w i) tt held ∙ step-answer w i c;
    stays = d.stays;
    holds = λ kept h i ok held. subst new.holds
        (sym (recorded-rows w i c ok (ap is_recorded
        (sym (d.right h (tables w i) tt held ∙ step-answer w i c)) ∙ kept)))
        (d.holds kept h (tables w i) tt held);
    leaves = λ kept h i ok held x left. subst (stands x)
        (sym (recorded-rows w i c ok (ap is_recorded
        (sym (d.right h (tables w i) tt held ∙ step-answer w i c)) ∙ kept)))
        (d.leaves kept h (tables w i) tt held x left);
  }
  carries_out stands w c old new (Err f) d = λ h o i ok held x left.
      elim (d h o (tables w i) tt held x left) [
        | inl was ↦ inl was
        | inr made ↦ let kept : is_recorded (answer w i c) ≡ true =
            ap is_recorded (sym (step-answer w i c)) ∙ made.0 in
            inr (kept, subst (stands x) (sym (recorded-rows w i c ok kept)) made.1)
      ]

  pub asks_at : (is_right : Readings → Type 0) (q : Query) (old new : Seen Left)
      (r : Result Answer Fault)
      → ((w : Readings) → is_right w → IfOk r (λ a. OfRows (λ t. a ≡ queried_from w t q) old new))
      → IfOk r (λ a. InHistory is_right (λ w h. a ≡ queried w h q) old new)
  asks_at is_right q old new (Ok a) is = λ w right honest h ok held. is w right honest (tables w h)
      held ∙ query-answer w h q
  asks_at is_right q old new (Err f) is = tt
