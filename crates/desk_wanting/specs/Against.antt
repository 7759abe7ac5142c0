-- What is in the list, in the subject's own words.
use Rattle.std.specs.Prelude.{◌≡◌, ℕ, List, [], Some, None}
use Rattle.desk_model.specs.Lists.{IsIn}
use Rattle.desk_model.specs.Readings.{Readings}
use Rattle.desk_model.specs.Tables.{Tables}
use Rattle.desk_model.specs.History.{attached_to}
use Rattle.desk_model.specs.Conclusions.{licence_for}
use Rattle.desk_model.specs.Raised.{rule_adopted}
use Rattle.desk_model.specs.Answers.{unadopted}
use Rattle.desk_model.specs.declared.refusal.Refusal.{Refusal}
use Rattle.desk_model.specs.declared.refusal.Refusal.TheVariants as why
use Rattle.desk_model.specs.declared.row.PackageRow.{PackageRow}
use Rattle.desk_model.specs.declared.row.ReleaseRow.{ReleaseRow}
use Rattle.desk_model.specs.declared.state.ReleaseState.TheVariants.{IsOpen}
use Rattle.desk_history.specs.FromTables.{choice_found, conclusion_found, release_found, rules_found}

-- a release is open, and a document is attached to it
pub record IsPrepared (t : Tables) (r : List ℕ) (row : ReleaseRow) : Type 0 where
  pub found : release_found t r ≡ Some row
  pub state : row.state ≡ IsOpen
  pub documents : attached_to t.attached r ≡ [] → ⊥

-- A refusal for a package that a release with this form ships: the package has no conclusion,
-- nothing is chosen for it, a chosen term names a reference without an adoption, or another chosen
-- term has no rule.
abbrev pub StandsAgainst : Readings → Tables → List ℕ → List ℕ → PackageRow → Refusal → Type 0
StandsAgainst w t r form p (why.NoConclusion d id) = (d ≡ p.document) × (id ≡ p.id)
    × (conclusion_found w t p ≡ None)
StandsAgainst w t r form p (why.NoChoice d id) = (d ≡ p.document) × (id ≡ p.id)
    × (choice_found t r p ≡ [])
StandsAgainst w t r form p (why.NotAdopted d reference) =
    (d ≡ p.document)
    × ((term : List ℕ) × IsIn term (choice_found t r p) × (w.reference term ≡ Some reference)
    × (licence_for t.adoption p.document reference ≡ None))
StandsAgainst w t r form p (why.NoRule d id term) =
    (d ≡ p.document) × (id ≡ p.id) × IsIn term (choice_found t r p)
    × (unadopted w t.adoption p.document term ≡ None)
    × (rule_adopted w t.adoption (rules_found t) form p.document term ≡ None)
StandsAgainst w t r form p _ = ⊥
