-- What a reading of texts must satisfy so that the choices of its histories are as an audit
-- requires: each right reading does.
use Rattle.std.specs.Prelude.{◌≡◌, ℕ, true, List, Some, None}
use Rattle.desk_base.specs.declared.profile.Profile.{Profile}
use Rattle.desk_base.specs.declared.profile.Profile.TheVariants.{Capitals}
use Rattle.desk_model.specs.Readings.{Readings}
use Rattle.desk_model.specs.Texts.{sorted_set}
use Rattle.desk_model.specs.declared.reading.Verdict.TheVariants.{Minimal}
use Rattle.desk_history_laws.specs.Billed.{ListsPackagesOnce}

-- A text without a fault is an expression, a printed term spells itself, a minimal list of terms is
-- also minimal as a set, and no document has two packages with the same id.
pub record ReadsChoices (w : Readings) : Type 0 where
  pub faultless : (text : List ℕ) → w.expression_fault Capitals text ≡ None
      → w.is_expression Capitals text ≡ true
  pub printed : (text term : List ℕ) → w.term text ≡ Some term → w.term term ≡ Some term
  pub sets : (profile : Profile) (text : List ℕ) (terms : List (List ℕ))
      → w.verdict profile text terms ≡ Minimal
      → w.verdict profile text (sorted_set terms) ≡ Minimal
  pub packages : ListsPackagesOnce w
