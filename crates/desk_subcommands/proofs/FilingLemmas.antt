-- What the outcome of a command or a question and the writing of its reply come to together.
use Rattle.std.proofs.Common.{◌≡◌, ℕ, List, Option, Ok, Err, subst}
use Rattle.std.specs.Prelude.{Result, IfOk, IfErr}
use Rattle.std.specs.Io.KnownBytes.{Appends}
use Rattle.desk_model.specs.declared.command.Answer.{Answer}
use Rattle.desk_model.specs.declared.command.Outcome.{Outcome}
use Rattle.desk_model.specs.declared.command.Outcome.TheVariants as outcome_is
use Rattle.desk_subcommands.specs.Failures.{OfRequest}
use Rattle.desk_subcommands.specs.Filing.{answer_status, outcome_line}
use Rattle.desk_subcommands.specs.declared.failure.Failure.{Failure}
use Rattle.desk_subcommands.specs.declared.failure.Failure.TheVariants as failure

module _ (Comes : Outcome → Type 0) (line : Answer → List ℕ) (old new : Option (List ℕ)) where
  pub answered : (outcome : Outcome) (result : Result ℕ Failure) → Comes outcome
      → IfOk result (λ status. (answer : Answer) × (outcome ≡ outcome_is.Answered answer)
      × Appends old new (line answer) × (status ≡ answer_status answer))
      → IfOk result (λ status. (answer : Answer) × Comes (outcome_is.Answered answer)
      × Appends old new (line answer) × (status ≡ answer_status answer))
  answered outcome (Ok status) comes (answer, is, written, same) = (
    answer,
    subst Comes is comes,
    written,
    same,
  )
  answered outcome (Err why) comes told = told

  pub failed : (outcome : Outcome) (result : Result ℕ Failure) → Comes outcome
      → IfErr result (OfRequest (λ fault. (outcome ≡ outcome_is.Failed fault)
      × Appends old new (outcome_line outcome)) (Unit {0}))
      → IfErr result (OfRequest (λ fault. Comes (outcome_is.Failed fault)
      × Appends old new (outcome_line (outcome_is.Failed fault))) ((o : Outcome) × Comes o))
  failed outcome (Ok status) comes told = told
  failed outcome (Err (failure.Request fault)) comes (is, written) = (
    subst Comes is comes,
    subst (λ o. Appends old new (outcome_line o)) is written,
  )
  failed outcome (Err (failure.Memory error)) comes told = (outcome, comes)
  failed outcome (Err (failure.Write error)) comes told = (outcome, comes)
  failed outcome (Err (failure.Script fault)) comes told = absurd told
  failed outcome (Err (failure.Failed count)) comes told = absurd told
  failed outcome (Err (failure.Read path error)) comes told = absurd told
  failed outcome (Err (failure.Database path trouble)) comes told = absurd told
  failed outcome (Err (failure.Close path trouble)) comes told = absurd told
  failed outcome (Err (failure.Listen port trouble)) comes told = absurd told
  failed outcome (Err (failure.Connections count)) comes told = absurd told
  failed outcome (Err (failure.Tree fault)) comes told = absurd told
  failed outcome (Err (failure.UnknownName name)) comes told = absurd told
  failed outcome (Err (failure.NotAFolder path)) comes told = absurd told
  failed outcome (Err failure.BadValue) comes told = absurd told
