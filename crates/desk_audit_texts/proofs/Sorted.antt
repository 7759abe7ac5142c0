-- Numbers in order: two such lists of the same numbers are equal.
use Rattle.std.proofs.Common.{◌≡◌, ℤ, List}
use Rattle.std.specs.FinMap.{int_cmp-IsAntisymmetric}
use Rattle.std.specs.List.Sorted.{IsPermutation, IsSorted}
use Rattle.std.specs.Ordering.{int_cmp}
use Rattle.std.proofs.lemmas.Cmp.{int_cmp_total}
use Rattle.std.proofs.lemmas.List.Sorted.{ranks_by}
use Rattle.desk_model.specs.Keys.{below_by}
use Rattle.desk_sorted.proofs.Sorting as sorting

-- there is only one order in which numbers are sorted
pub sorted_once : (a b : List ℤ) → IsSorted int_cmp a → IsSorted int_cmp b → IsPermutation a b
    → a ≡ b
sorted_once a b up up' same =
    let order = ranks_by int_cmp_total (λ (x : ℤ). x) in
    sorting.sorted_once int_cmp int_cmp_total int_cmp-IsAntisymmetric a b
    (sorting.ascends-sorted (below_by int_cmp) order a up)
    (sorting.ascends-sorted (below_by int_cmp) order b up') same
