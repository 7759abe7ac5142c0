-- What is read from the conclusion in force for a package.
use Rattle.std.specs.Prelude.{◌≡◌, ℕ, List, Option, Some, None}
use Rattle.desk_base.specs.declared.profile.Profile.{Profile}
use Rattle.desk_model.specs.Readings.{Readings}
use Rattle.desk_model.specs.declared.reading.Conclusion.{Conclusion}
use Rattle.desk_model.specs.declared.reading.Verdict.TheVariants.{NotEnough}

module _ {E : Type 0} (is_of : Profile → List ℕ → E → Type 0) where
  -- the expression that the conclusion is; or none, if no terms are enough for the conclusion, or
  -- if there is no conclusion
  abbrev pub IsRead : Readings → Option Conclusion → Option E → Type 0
  IsRead w (Some conclusion) (Some expression) = is_of conclusion.profile conclusion.text expression
  IsRead w (Some conclusion) None = (terms : List (List ℕ))
      → w.verdict conclusion.profile conclusion.text terms ≡ NotEnough
  IsRead w None (Some expression) = ⊥
  IsRead w None None = Unit {0}
