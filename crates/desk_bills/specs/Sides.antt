-- On which side of a package's terms a frozen row is, by the order of the table.
use Rattle.std.proofs.Common.{◌≡◌, ℕ, List}
use Rattle.std.specs.Ordering.{nat_cmp, is_eq, ordering_then}
use Rattle.std.specs.Cmp.Lexicographic.{slice_cmp}
use Rattle.std.specs.declared.cmp.Ordering.{Ordering}
use Rattle.desk_model.specs.Keys.{frozen_order, is_frozen_of}
use Rattle.desk_model.specs.declared.row.FrozenRow.{FrozenRow}
use Rattle.desk_sorted.specs.Sorted.{IsSideOf}
use Rattle.desk_sorted.specs.Sides.{side_by, three_cmp, three_less, three_meet, three_total}

-- Less before the rows of a package in a release, Equal among them, Greater behind them
abbrev pub package_side : List ℕ → ℕ → List ℕ → FrozenRow → Ordering
package_side release document id row =
    ordering_then (ordering_then (slice_cmp nat_cmp row.release release)
    (nat_cmp row.document document)) (slice_cmp nat_cmp row.package_id id)

-- in the order of frozen terms the rows before the package's come first, then these, then those
-- behind them
pub package_splits : (release : List ℕ) (document : ℕ) (id : List ℕ)
    → IsSideOf frozen_order (package_side release document id)
package_splits release document id =
    side_by frozen_order (λ row. (row.release, row.document, row.package_id)) three_cmp three_total
    (λ x y e. three_less (slice_cmp nat_cmp y.release x.release) (nat_cmp y.document x.document)
    (slice_cmp nat_cmp y.package_id x.package_id) (slice_cmp nat_cmp y.term x.term) e)
    (release, document, id)

-- The package's rows are those on neither side.
pub package_meets : (release : List ℕ) (document : ℕ) (id : List ℕ) (row : FrozenRow)
    → is_frozen_of release document id row ≡ is_eq (package_side release document id row)
package_meets release document id row = three_meet row.release release row.document document
    row.package_id id
