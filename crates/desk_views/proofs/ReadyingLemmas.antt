-- How the answer whether a release is ready is shown.
use Rattle.std.proofs.Common.{◌≡◌, ◌∙◌, ℕ, Bool, true, false, List, [], ◌∷◌, Option, ap, refl, sym, subst}
use Rattle.std.specs.Prelude.{Result, Ok, Err, IfOk}
use Rattle.std.specs.Io.KnownBytes.{Appends}
use Rattle.desk_model.specs.declared.command.Answer.{Answer}
use Rattle.desk_model.specs.declared.command.Answer.TheVariants.{Duties, Gaps}
use Rattle.desk_model.specs.declared.command.Outcome.{Outcome}
use Rattle.desk_model.specs.declared.command.Outcome.TheVariants as outcome_is
use Rattle.desk_subcommands.specs.declared.failure.Failure.{Failure}
use Rattle.desk_views.specs.Readying.{is_ready, ready_status, ready_text}
use Rattle.desk_views.specs.Showing.{shown}

-- if no duty keeps the release back, nothing is written
pub none_back : (is_terminal : Bool) (o : Outcome) (old new : Option (List ℕ)) → is_ready o ≡ true
    → Appends old new [] → (a : Answer) × (o ≡ outcome_is.Answered a)
    × Appends old new (ready_text is_terminal a) × (0 ≡ ready_status a)
none_back b (outcome_is.Failed fault) old new e written = absurd (cc)
none_back b (outcome_is.Answered (Duties [])) old new e written = (Duties [], refl, written, refl)
none_back b (outcome_is.Answered (Duties (line ∷ lines))) old new e written = absurd (cc)
none_back b (outcome_is.Answered (Gaps [])) old new e written = (Gaps [], refl, written, refl)
none_back b (outcome_is.Answered (Gaps (gap ∷ gaps))) old new e written = absurd (cc)
none_back b (outcome_is.Answered _) old new e written = absurd (cc)

by_answer : (is_terminal : Bool) (a : Answer) (old new : Option (List ℕ))
    → is_ready (outcome_is.Answered a) ≡ false → Appends old new (shown is_terminal a)
    → Appends old new (ready_text is_terminal a) × (1 ≡ ready_status a)
by_answer b (Duties []) old new e written = absurd (cc)
by_answer b (Duties (line ∷ lines)) old new e written = (written, refl)
by_answer b (Gaps []) old new e written = absurd (cc)
by_answer b (Gaps (gap ∷ gaps)) old new e written = (written, refl)
by_answer b _ old new e written = (written, refl)

-- any other answer is written as it is shown
pub some_back : (is_terminal : Bool) (o : Outcome) (a : Answer) (old new : Option (List ℕ))
    → is_ready o ≡ false → o ≡ outcome_is.Answered a → Appends old new (shown is_terminal a)
    → Appends old new (ready_text is_terminal a) × (1 ≡ ready_status a)
some_back b o a old new e is written = by_answer b a old new (sym (ap is_ready is) ∙ e) written

module _ (Comes : Outcome → Type 0) (text : Answer → List ℕ) (old new : Option (List ℕ)) where
  pub told_ready : (outcome : Outcome) (result : Result ℕ Failure) → Comes outcome
      → IfOk result (λ status. (answer : Answer) × (outcome ≡ outcome_is.Answered answer)
      × Appends old new (text answer) × (status ≡ ready_status answer))
      → IfOk result (λ status. (answer : Answer) × Comes (outcome_is.Answered answer)
      × Appends old new (text answer) × (status ≡ ready_status answer))
  told_ready outcome (Ok status) comes (answer, is, written, same) = (
    answer,
    subst Comes is comes,
    written,
    same,
  )
  told_ready outcome (Err why) comes told = told
