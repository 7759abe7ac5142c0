-- How notices are shown whose gaps are filled.
use Rattle.std.proofs.Common.{◌≡◌, ◌∙◌, ℕ, List, [], Option, ap, refl, sym, subst}
use Rattle.std.specs.Prelude.{Result, Ok, Err, IfOk, IfErr, is_some, unwrap_or, if◌then◌else◌}
use Rattle.std.specs.Io.KnownBytes.{Appends}
use Rattle.desk_fill.specs.declared.fill.Fill.{Fill}
use Rattle.desk_fill.specs.declared.showing.Style.{Style}
use Rattle.desk_model.specs.declared.bill.Bill.{Bill}
use Rattle.desk_model.specs.declared.command.Answer.{Answer}
use Rattle.desk_model.specs.declared.command.Answer.TheVariants as answer
use Rattle.desk_model.specs.declared.command.Fault.{Fault}
use Rattle.desk_model.specs.declared.command.Outcome.{Outcome}
use Rattle.desk_model.specs.declared.command.Outcome.TheVariants as outcome_is
use Rattle.desk_subcommands.specs.Failures.{OfRequest}
use Rattle.desk_subcommands.specs.Filing.{answer_status, outcome_line}
use Rattle.desk_subcommands.specs.declared.failure.Failure.{Failure}
use Rattle.desk_views.specs.Filling.{bill_of, filled_status, filled_text, written_notices}

pub has_bill : (o : Outcome) (bill : Bill) → bill_of o ≡ Ok bill
    → o ≡ outcome_is.Answered (answer.Bill bill)
has_bill (outcome_is.Failed fault) bill e = absurd (cc)
has_bill (outcome_is.Answered (answer.Bill own)) bill e = let same : own ≡ bill = cc in
    ap (λ b. outcome_is.Answered (answer.Bill b)) same
has_bill (outcome_is.Answered _) bill e = absurd (cc)

pub has_none : (o other : Outcome) → bill_of o ≡ Err other → o ≡ other
has_none (outcome_is.Failed fault) other e = cc
has_none (outcome_is.Answered (answer.Bill own)) other e = absurd (cc)
has_none (outcome_is.Answered _) other e = cc

module _ (fills : List Fill) (style : Style) where
  line_of_other : (a : Answer) (other : Outcome) → bill_of (outcome_is.Answered a) ≡ Err other
      → filled_text fills style a ≡ outcome_line (outcome_is.Answered a)
  line_of_other (answer.Bill own) other e = absurd (cc)
  line_of_other _ other e = refl

  status_of_other : (a : Answer) (other : Outcome) → bill_of (outcome_is.Answered a) ≡ Err other
      → filled_status fills style a ≡ answer_status a
  status_of_other (answer.Bill own) other e = absurd (cc)
  status_of_other _ other e = refl

  module _ (old new : Option (List ℕ)) where
    -- the notices of an outcome that has a bill
    pub bill_written : (o : Outcome) (bill : Bill) (result : Result ℕ Failure) → bill_of o ≡ Ok bill
        → IfOk result (λ status. Appends old new (unwrap_or (written_notices fills style bill) [])
        × (status ≡ (if is_some (written_notices fills style bill) then 0 else 1)))
        → IfOk result (λ status. (a : Answer) × (o ≡ outcome_is.Answered a)
        × Appends old new (filled_text fills style a) × (status ≡ filled_status fills style a))
    bill_written o bill (Err why) e told = told
    bill_written o bill (Ok status) e (written, same) =
        (answer.Bill bill, has_bill o bill e, written, same)

    -- the line of any other outcome
    pub line_written : (o other : Outcome) (result : Result ℕ Failure) → bill_of o ≡ Err other
        → IfOk result (λ status. (a : Answer) × (other ≡ outcome_is.Answered a)
        × Appends old new (outcome_line (outcome_is.Answered a)) × (status ≡ answer_status a))
        → IfOk result (λ status. (a : Answer) × (o ≡ outcome_is.Answered a)
        × Appends old new (filled_text fills style a) × (status ≡ filled_status fills style a))
    line_written o other (Err why) e told = told
    line_written o other (Ok status) e (a, is, written, same) =
        let own = has_none o other e ∙ is in
        let of = sym (ap bill_of own) ∙ e in (
          a,
          own,
          subst (Appends old new) (sym (line_of_other a other of)) written,
          same ∙ sym (status_of_other a other of),
        )

    module _ (Comes : Outcome → Type 0) where
      pub told_filled : (outcome : Outcome) (result : Result ℕ Failure) → Comes outcome
          → IfOk result (λ status. (a : Answer) × (outcome ≡ outcome_is.Answered a)
          × Appends old new (filled_text fills style a) × (status ≡ filled_status fills style a))
          → IfOk result (λ status. (a : Answer) × Comes (outcome_is.Answered a)
          × Appends old new (filled_text fills style a) × (status ≡ filled_status fills style a))
      told_filled outcome (Ok status) comes (a, is, written, same) =
          (a, subst Comes is comes, written, same)
      told_filled outcome (Err why) comes told = told
