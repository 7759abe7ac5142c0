-- The key of each row of a table.
use Rattle.std.specs.Prelude.{ℕ, List, map}
use Rattle.desk_model.specs.Tables.{Tables}
use Rattle.desk_model.specs.declared.row.AdoptionRow.{AdoptionRow}
use Rattle.desk_model.specs.declared.row.AttachedRow.{AttachedRow}
use Rattle.desk_model.specs.declared.row.ChangeRow.{ChangeRow}
use Rattle.desk_model.specs.declared.row.ChoiceRow.{ChoiceRow}
use Rattle.desk_model.specs.declared.row.ConclusionRow.{ConclusionRow}
use Rattle.desk_model.specs.declared.row.ExtractedRow.{ExtractedRow}
use Rattle.desk_model.specs.declared.row.FrozenRow.{FrozenRow}
use Rattle.desk_model.specs.declared.row.PackageRow.{PackageRow}
use Rattle.desk_model.specs.declared.row.RuleRow.{RuleRow}
use Rattle.desk_history.specs.Laws.{AreDistinct, key_of}

-- a rule by revision, term and form
abbrev pub rule_key : RuleRow → ℕ × List ℕ × List ℕ
rule_key row = (row.revision, row.term, row.form)

-- a package by document and id
abbrev pub package_key : PackageRow → ℕ × List ℕ
package_key row = (row.document, row.id)

-- an extracted text by document and reference
abbrev pub extracted_key : ExtractedRow → ℕ × List ℕ
extracted_key row = (row.document, row.reference)

-- a conclusion by document and package
abbrev pub conclusion_key : ConclusionRow → ℕ × List ℕ
conclusion_key row = (row.document, row.package_id)

-- an adoption by document and reference
abbrev pub adoption_key : AdoptionRow → ℕ × List ℕ
adoption_key row = (row.document, row.reference)

-- an attached document by release and number
abbrev pub attached_key : AttachedRow → List ℕ × ℕ
attached_key row = (row.release, row.document)

-- a chosen term by release, document, package and term
abbrev pub choice_key : ChoiceRow → List ℕ × ℕ × List ℕ × List ℕ
choice_key row = (row.release, row.document, row.package_id, row.term)

-- a frozen term by release, document, package and term
abbrev pub frozen_key : FrozenRow → List ℕ × ℕ × List ℕ × List ℕ
frozen_key row = (row.release, row.document, row.package_id, row.term)

-- a change by duty and step
abbrev pub change_key : ChangeRow → ℕ × ℕ
change_key row = (row.duty, row.step)

-- No two rows of a table have the same key. Besides, a document's namespace, a release's place, and
-- what a duty is owed for are unique.
pub record HaveOwnKeys (t : Tables) : Type 0 where
  pub revisions : AreDistinct (map (λ row. row.revision) t.catalogue)
  pub rules : AreDistinct (map rule_key t.rule)
  pub documents : AreDistinct (map (λ row. row.number) t.document)
  pub namespaces : AreDistinct (map (λ row. row.namespace) t.document)
  pub packages : AreDistinct (map package_key t.packages)
  pub extracted : AreDistinct (map extracted_key t.extracted)
  pub conclusions : AreDistinct (map conclusion_key t.conclusion)
  pub adoptions : AreDistinct (map adoption_key t.adoption)
  pub releases : AreDistinct (map (λ row. row.name) t.releases)
  pub places : AreDistinct (map (λ row. row.place) t.releases)
  pub attached : AreDistinct (map attached_key t.attached)
  pub choices : AreDistinct (map choice_key t.choice)
  pub frozen : AreDistinct (map frozen_key t.frozen)
  pub duties : AreDistinct (map (λ row. row.number) t.duty)
  pub owed : AreDistinct (map key_of t.duty)
  pub changes : AreDistinct (map change_key t.changes)
