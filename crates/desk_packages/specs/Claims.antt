-- What may be the conclusion in force for a package.
use Rattle.std.specs.Prelude.{◌≡◌, ℕ, List, Option, Some, None, if◌then◌else◌}
use Rattle.desk_base.specs.declared.profile.Profile.{Profile}
use Rattle.desk_model.specs.Readings.{Readings}
use Rattle.desk_model.specs.declared.reading.Conclusion.{Conclusion}
use Rattle.desk_packages.specs.declared.conclusion.Claim.{Claim}
use Rattle.desk_packages.specs.declared.conclusion.Claim.TheVariants.{Office, Field, Nothing}
use Rattle.desk_packages.specs.declared.conclusion.InForce.{InForce}
use Rattle.desk_packages.specs.declared.conclusion.InForce.TheVariants as read
use Rattle.desk_access.specs.Reading.{IsNone}

-- the conclusion that this is; the package's own field is one only if it is an expression
abbrev pub read_claim : Readings → Claim → Option Conclusion
read_claim w (Office c) = Some c
read_claim w (Field c) = if w.is_expression c.profile c.text then Some c else None
read_claim w Nothing = None

-- what was read of this conclusion
module _ {E : Type 0} (is_of : Profile → List ℕ → E → Type 0) where
  -- the expression that the conclusion's text spells, or that it spells none, or that there is no
  -- conclusion
  abbrev pub InForceOf : Readings → Option Conclusion → InForce E → Type 0
  InForceOf w conclusion (read.Expression e) = (c : Conclusion) × (conclusion ≡ Some c)
      × is_of c.profile c.text e
  InForceOf w conclusion read.NoExpression = (c : Conclusion) × (conclusion ≡ Some c)
      × IsNone w c.profile c.text
  InForceOf w conclusion read.Nothing = conclusion ≡ None
