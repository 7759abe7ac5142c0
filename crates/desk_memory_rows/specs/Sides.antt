-- The keys that rows are looked up by: on which side of them a row is.
use Rattle.std.specs.Prelude.{ℕ, List}
use Rattle.std.specs.Ordering.{nat_cmp, ordering_then}
use Rattle.std.specs.Cmp.Lexicographic.{slice_cmp}
use Rattle.std.specs.declared.cmp.Ordering.{Ordering}
use Rattle.desk_model.specs.declared.row.AdoptionRow.{AdoptionRow}
use Rattle.desk_model.specs.declared.row.ConclusionRow.{ConclusionRow}
use Rattle.desk_model.specs.declared.row.ChoiceRow.{ChoiceRow}

-- Less for a row before the conclusion of this package, Equal for that one, Greater for a row
-- behind it
abbrev pub conclusion_side : ℕ → List ℕ → ConclusionRow → Ordering
conclusion_side document id row = ordering_then (nat_cmp row.document document)
    (slice_cmp nat_cmp row.package_id id)

-- the same for the adoption of a reference
abbrev pub adoption_side : ℕ → List ℕ → AdoptionRow → Ordering
adoption_side document reference row = ordering_then (nat_cmp row.document document)
    (slice_cmp nat_cmp row.reference reference)

-- the same for all adoptions of a document, which are next to each other
abbrev pub adoptions_side : ℕ → AdoptionRow → Ordering
adoptions_side document row = nat_cmp row.document document

-- the same for the terms chosen for a package in a release
abbrev pub choice_side : List ℕ → ℕ → List ℕ → ChoiceRow → Ordering
choice_side release document id row = ordering_then
    (ordering_then (slice_cmp nat_cmp row.release release) (nat_cmp row.document document))
    (slice_cmp nat_cmp row.package_id id)

-- the same for all that is chosen in a release
abbrev pub holder_side : List ℕ → ChoiceRow → Ordering
holder_side release row = slice_cmp nat_cmp row.release release
