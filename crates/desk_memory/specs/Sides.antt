-- The keys that rows are looked up by: on which side of them a row is.
use Rattle.std.specs.Prelude.{ℕ, ◌==◌, Bool, List}
use Rattle.std.specs.Ordering.{nat_cmp, ordering_then}
use Rattle.std.specs.Cmp.Lexicographic.{slice_cmp}
use Rattle.std.specs.Str.{bytes_eq}
use Rattle.std.specs.declared.cmp.Ordering.{Ordering}
use Rattle.desk_model.specs.declared.row.DocumentRow.{DocumentRow}
use Rattle.desk_model.specs.declared.row.ExtractedRow.{ExtractedRow}
use Rattle.desk_model.specs.declared.row.PackageRow.{PackageRow}
use Rattle.desk_model.specs.declared.row.ReleaseRow.{ReleaseRow}
use Rattle.desk_model.specs.declared.row.AttachedRow.{AttachedRow}
use Rattle.desk_model.specs.declared.row.FrozenRow.{FrozenRow}

-- Less for a row before the document with this number, Equal for that one, Greater for a row behind
-- it
abbrev pub document_side : ℕ → DocumentRow → Ordering
document_side number row = nat_cmp row.number number

-- a package of this document, whatever its id
abbrev pub is_package_of : ℕ → PackageRow → Bool
is_package_of document row = row.document == document

-- the same side for all packages of a document, which are next to each other
abbrev pub packages_side : ℕ → PackageRow → Ordering
packages_side document row = nat_cmp row.document document

-- the same for one package of a document
abbrev pub package_side : ℕ → List ℕ → PackageRow → Ordering
package_side document id row = ordering_then (nat_cmp row.document document)
    (slice_cmp nat_cmp row.id id)

-- the same for the release with a name
abbrev pub release_side : List ℕ → ReleaseRow → Ordering
release_side name row = slice_cmp nat_cmp row.name name

-- the same for all documents of a release
abbrev pub attached_side : List ℕ → AttachedRow → Ordering
attached_side release row = slice_cmp nat_cmp row.release release

-- the same for one document of a release
abbrev pub attachment_side : List ℕ → ℕ → AttachedRow → Ordering
attachment_side release document row = ordering_then (slice_cmp nat_cmp row.release release)
    (nat_cmp row.document document)

-- a term that this release was frozen with
abbrev pub is_frozen_in : List ℕ → FrozenRow → Bool
is_frozen_in release row = bytes_eq row.release release

-- the same for all frozen terms of a release
abbrev pub frozen_side : List ℕ → FrozenRow → Ordering
frozen_side release row = slice_cmp nat_cmp row.release release

-- the same for the text of a reference in a document
abbrev pub extracted_side : ℕ → List ℕ → ExtractedRow → Ordering
extracted_side document reference row = ordering_then (nat_cmp row.document document)
    (slice_cmp nat_cmp row.reference reference)
