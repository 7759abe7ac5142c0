-- What the steps of dropping a choice have found.
use Rattle.std.specs.Prelude.{ℕ, List, [], ◌∷◌, length, nat_lt, find, is_some}
use Rattle.desk_model.specs.Keys.{is_package}
use Rattle.desk_model.specs.Tables.{Tables}
use Rattle.desk_model.specs.Answers.{refused_first, unless, unready}
use Rattle.desk_model.specs.declared.state.ReleaseState.{ReleaseState}
use Rattle.desk_model.specs.declared.refusal.Refusal.TheVariants as why
use Rattle.desk_model.specs.declared.command.Answer.{Answer}
use Rattle.desk_model.specs.declared.command.Answer.TheVariants as answered
use Rattle.desk_history.specs.FromTables.{terms_found}

-- with these terms chosen
abbrev pub drop_answer : ℕ → List ℕ → List (List ℕ) → Answer
drop_answer d p chosen = refused_first (unless (nat_lt 0 (length chosen)) (why.NoChoice d p) ∷ [])
    answered.Done

-- of a document that was found, in a release in this state
abbrev pub unchoose_in : Tables → ReleaseState → List ℕ → ℕ → List ℕ → Answer
unchoose_in t state r d p = refused_first (
    unless (is_some (find (is_package d p) t.packages)) why.UnknownPackage
    ∷ unready state
    ∷ unless (nat_lt 0 (length (terms_found t r d p))) (why.NoChoice d p)
    ∷ []) answered.Done
