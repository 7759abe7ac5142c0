-- What is read from a conclusion.
use Rattle.std.proofs.Common.{◌≡◌, ℕ, pos, ◌&&◌, false, true, List, Option, Some, None, sym, refl}
use Rattle.std.specs.Option.{option_map_or}
use Rattle.std.specs.Ordering.{int_eq}
use Rattle.desk_base.specs.declared.profile.Profile.{Profile}
use Rattle.desk_model.specs.Readings.{Readings}
use Rattle.desk_model.specs.declared.reading.Conclusion.{Conclusion}
use Rattle.desk_snapshot.specs.Conditions.{are_minimal, conclusion_at, ships_under}
use Rattle.desk_snapshot.specs.declared.rows.StoredPackage.{StoredPackage}
use Rattle.desk_snapshot.specs.declared.snapshot.Snapshot.{Snapshot}
use Rattle.desk_audit_texts.specs.InForce.{IsRead}

module _ {E : Type 0} (is_of : Profile → List ℕ → E → Type 0) (w : Readings) where
  -- an expression was read from a conclusion
  pub read_of : (conclusion : Option Conclusion) (expression : E)
      → IsRead is_of w conclusion (Some expression)
      → (c : Conclusion) × (conclusion ≡ Some c) × is_of c.profile c.text expression
  read_of (Some c) expression is = (c, refl, is)
  read_of None expression is = elim is [ ]

-- a package ships under terms if they are a minimal set for its conclusion
pub ships_as : (w : Readings) (s : Snapshot) (terms : List (List ℕ)) (p : StoredPackage)
    (conclusion : Conclusion) → int_eq p.shipped (pos 1) ≡ true
    → conclusion_at w s p ≡ Some conclusion
    → are_minimal w terms conclusion ≡ ships_under w s terms p
ships_as w s terms p conclusion ships is = λ i. (sym ships i)
    && option_map_or (are_minimal w terms) (sym is i) false
