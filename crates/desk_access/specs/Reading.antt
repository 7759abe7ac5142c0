-- What a reader says of the text of an expression.
use Rattle.std.specs.Prelude.{◌≡◌, ℕ, true, false, List, [], Option, Some, None, Ok}
use Rattle.desk_base.specs.declared.profile.Profile.{Profile}
use Rattle.desk_model.specs.Readings.{Readings}
use Rattle.desk_model.specs.declared.reading.Verdict.TheVariants.{NotEnough}

-- the text is no expression: no terms are enough for it, and it has neither sets of terms nor a
-- cheapest one
pub record IsNone (w : Readings) (profile : Profile) (text : List ℕ) : Type 0 where
  pub unread : w.is_expression profile text ≡ false
  pub verdict : (terms : List (List ℕ)) → w.verdict profile text terms ≡ NotEnough
  pub alternatives : w.alternatives profile text ≡ Ok []
  pub cheapest : (cost : List ℕ → Option ℕ) → w.cheapest profile text cost ≡ Ok None

module _ {E : Type 0} (is_of : Profile → List ℕ → E → Type 0) where
  -- the expression that the text is, or none if it is none
  abbrev pub TellsExpression : Readings → Profile → List ℕ → Option E → Type 0
  TellsExpression w profile text (Some e) = (w.is_expression profile text ≡ true)
      × is_of profile text e
  TellsExpression w profile text None = IsNone w profile text
