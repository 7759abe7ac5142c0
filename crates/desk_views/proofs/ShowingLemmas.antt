-- How an outcome is shown: as its text or, if it has none, as the line of its reply.
use Rattle.std.proofs.Common.{◌≡◌, ℕ, Bool, List, Option, Some, None, ap, refl}
use Rattle.std.specs.Prelude.{Result, Ok, Err, IfOk, unwrap_or}
use Rattle.std.specs.Io.KnownBytes.{Appends}
use Rattle.std.proofs.lemmas.Option.{none-some}
use Rattle.std.proofs.Common.{◌∙◌, sym, subst}
use Rattle.desk_model.specs.declared.command.Answer.{Answer}
use Rattle.desk_model.specs.declared.command.Answer.TheVariants as answer
use Rattle.desk_model.specs.declared.command.Outcome.{Outcome}
use Rattle.desk_model.specs.declared.command.Outcome.TheVariants as outcome_is
use Rattle.desk_subcommands.specs.Filing.{answer_status, outcome_line}
use Rattle.desk_views.specs.Showing.{answer_text, outcome_text, shown}
use Rattle.desk_subcommands.specs.declared.failure.Failure.{Failure}

-- only a refusal has a status other than 0, and it has no text
done : (is_terminal : Bool) (a : Answer) (text : List ℕ) → answer_text is_terminal a ≡ Some text
    → 0 ≡ answer_status a
done b (answer.Refused refusal) text e = absurd (none-some text e)
done b (answer.Revision n) text e = refl
done b (answer.Imported n) text e = refl
done b (answer.Again n) text e = refl
done b answer.Done text e = refl
done b (answer.Frozen first count) text e = refl
done b (answer.Closed count) text e = refl
done b (answer.Duties lines) text e = refl
done b (answer.Totals totals) text e = refl
done b (answer.Changes rows) text e = refl
done b (answer.Findings rows) text e = refl
done b (answer.Release row lines) text e = refl
done b (answer.Alternatives sets) text e = refl
done b (answer.Cheapest found) text e = refl
done b (answer.Bill bill) text e = refl
done b (answer.Releases lines) text e = refl
done b (answer.Documents lines) text e = refl
done b (answer.OpenDuties lines) text e = refl
done b (answer.Wanting refusals) text e = refl
done b (answer.Gaps gaps) text e = refl

-- an outcome that has a text is an answer, and is written as this text
pub has_text : (is_terminal : Bool) (o : Outcome) (text : List ℕ) (old new : Option (List ℕ))
    → outcome_text is_terminal o ≡ Some text → Appends old new text
    → (a : Answer) × (o ≡ outcome_is.Answered a) × Appends old new (shown is_terminal a)
    × (0 ≡ answer_status a)
has_text b (outcome_is.Failed fault) text old new e written = absurd (none-some text e)
has_text b (outcome_is.Answered a) text old new e written = (
  a,
  refl,
  subst (λ o. Appends old new (unwrap_or o (outcome_line (outcome_is.Answered a)))) (sym e) written,
  done b a text e,
)

-- any other outcome is written as its line
pub has_line : (is_terminal : Bool) (o : Outcome) (old new : Option (List ℕ))
    (result : Result ℕ Failure) → outcome_text is_terminal o ≡ None
    → IfOk result (λ status. (a : Answer) × (o ≡ outcome_is.Answered a)
    × Appends old new (outcome_line (outcome_is.Answered a)) × (status ≡ answer_status a))
    → IfOk result (λ status. (a : Answer) × (o ≡ outcome_is.Answered a)
    × Appends old new (shown is_terminal a) × (status ≡ answer_status a))
has_line b o old new (Err why) e told = told
has_line b o old new (Ok status) e (a, is, written, same) = (
  a,
  is,
  subst (λ text. Appends old new (unwrap_or text (outcome_line (outcome_is.Answered a))))
      (sym (sym (ap (outcome_text b) is) ∙ e)) written,
  same,
)
