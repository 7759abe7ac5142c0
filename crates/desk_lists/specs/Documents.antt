-- The line of a document: its row in the table, how many packages it has and ships, its profile,
-- and what its bytes say.
use Rattle.std.specs.Prelude.{◌≡◌, ℕ, ℤ, pos, ◌&&◌, Bool, List, [], Option, Some, None, Result, Ok}
use Rattle.std.specs.Prelude.{Err, find, count_by, length, option_map}
use Rattle.std.specs.Ordering.{int_cmp, int_eq}
use Rattle.std.specs.declared.cmp.Ordering.{Ordering}
use Rattle.std.proofs.lemmas.Cmp.{int_cmp_total}
use Rattle.desk_base.specs.declared.profile.Profile.{Profile}
use Rattle.desk_expr.specs.Tree.{Tree}
use Rattle.desk_fields.specs.declared.fault.DocFault.{DocFault}
use Rattle.desk_findings.specs.Fields.{IsReading}
use Rattle.desk_findings.specs.Findings.{AreFindings}
use Rattle.desk_model.specs.declared.finding.Finding.{Finding}
use Rattle.desk_sorted.specs.Sides.{side_by, first_less}
use Rattle.desk_sorted.specs.Sorted.{IsSideOf}
use Rattle.desk_snapshot.specs.Conditions.{profile_at}
use Rattle.desk_snapshot.specs.Orders.{package_order}
use Rattle.desk_snapshot.specs.Rows.{is_reading_of}
use Rattle.desk_snapshot.specs.declared.rows.StoredDocument.{StoredDocument}
use Rattle.desk_snapshot.specs.declared.rows.StoredPackage.{StoredPackage}
use Rattle.desk_snapshot.specs.declared.snapshot.Snapshot.{Snapshot}
use Rattle.desk_tagvalue.specs.Documents.{Spells}
use Rattle.desk_tagvalue.specs.Parts.{DocumentText}
use Rattle.desk_lists.specs.declared.lines.DocumentLine.{DocumentLine}
use Rattle.desk_lists.specs.declared.said.Said.{Said}

-- readings of values as expressions, one for each profile of operators
abbrev pub AreReadings : (Profile → List ℕ → Option Tree) → Type 0
AreReadings reads = (profile : Profile) → IsReading profile (reads profile)

-- how many findings a document has
abbrev pub CountsFindings : (Profile → List ℕ → Option Tree) → Profile → DocumentText → ℕ → Type 0
CountsFindings reads profile d count = (found : List Finding) × AreFindings (reads profile) d found
    × (count ≡ length found)

-- a document says its name and how many findings it has
abbrev pub SaysOf : (Profile → List ℕ → Option Tree) → Profile → DocumentText → Said → Type 0
SaysOf reads profile d said = (said.name ≡ d.name)
    × ((count : ℕ) × CountsFindings reads profile d count × (said.findings ≡ Some count))

-- the same of what bytes spell; bytes that are no document say nothing
abbrev pub Says : (Profile → List ℕ → Option Tree) → Profile → Result DocumentText DocFault → Said
    → Type 0
Says reads profile (Ok d) said = SaysOf reads profile d said
Says reads profile (Err fault) said = (said.name ≡ []) × (said.findings ≡ None)

-- what bytes say that are read as a document in tag-value form, with a profile for its operators
abbrev pub IsSaid : (Profile → List ℕ → Option Tree) → Profile → List ℕ → Said → Type 0
IsSaid reads profile bytes said = (read : Result DocumentText DocFault) × Spells bytes read
    × Says reads profile read said

-- a package of the document with this number, shipped or not
abbrev pub is_package_of : ℤ → StoredPackage → Bool
is_package_of document row = int_eq row.document document

-- a package that this document ships
abbrev pub is_shipped_by : ℤ → StoredPackage → Bool
is_shipped_by document row = int_eq row.document document && int_eq row.shipped (pos 1)

-- the line of a document's row, with what its bytes say
abbrev pub document_line : Snapshot → StoredDocument → Said → DocumentLine
document_line snapshot row said = record {
  number = row.number;
  name = said.name;
  namespace = row.namespace;
  packages = count_by (is_package_of row.number) snapshot.packages;
  shipped = count_by (is_shipped_by row.number) snapshot.packages;
  findings = said.findings;
  profile = option_map (λ reading. reading.profile)
      (find (is_reading_of row.number) snapshot.reading);
}

-- the line of a document, whose bytes are read by its own profile
abbrev pub IsDocumentLine : (Profile → List ℕ → Option Tree) → Snapshot → StoredDocument
    → DocumentLine → Type 0
IsDocumentLine reads snapshot row line =
    (said : Said) × IsSaid reads (profile_at snapshot row.number) row.bytes said
    × (line ≡ document_line snapshot row said)

-- the packages of each document are next to each other

-- where the packages of this document are among all, by their documents
abbrev pub package_of_side : ℤ → StoredPackage → Ordering
package_of_side document row = int_cmp row.document document

-- this side fits the order of packages, so that those of a document are found by halving
pub package_of_splits : (document : ℤ) → IsSideOf package_order (package_of_side document)
package_of_splits document =
    side_by package_order (λ row. row.document) int_cmp int_cmp_total
    (λ x y e. first_less (int_cmp y.document x.document) _ e) document
