-- The duties that releases hold, in the order of the releases' names.
use Rattle.std.specs.Prelude.{ℕ, Bool, List, map}
use Rattle.std.specs.Cmp.{IsTotalOrder}
use Rattle.std.specs.Cmp.Lexicographic.{slice_cmp}
use Rattle.std.specs.Ordering.{nat_cmp, on}
use Rattle.std.specs.Str.{bytes_eq}
use Rattle.std.specs.declared.cmp.Ordering.{Ordering}
use Rattle.std.proofs.lemmas.Cmp.{nat_list_cmp_total, on_total}
use Rattle.desk_sorted.specs.Sides.{side_by}
use Rattle.desk_sorted.specs.Sorted.{IsSideOf}
use Rattle.desk_snapshot.specs.declared.rows.StoredDuty.{StoredDuty}
use Rattle.desk_lists.specs.declared.held.Held.{Held}

-- the rows of these duties
abbrev pub duties_held : List Held → List StoredDuty
duties_held held = map (λ (row : Held). row.duty.now) held

-- by the name of the release, byte by byte
abbrev pub held_order : Held → Held → Ordering
held_order = on (λ (row : Held). row.duty.now.release) (slice_cmp nat_cmp)

-- it is a total order, as searching needs
pub held_total : IsTotalOrder held_order
held_total = on_total (λ (row : Held). row.duty.now.release) nat_list_cmp_total

-- where the duties of this release are among all
abbrev pub held_side : List ℕ → Held → Ordering
held_side release row = slice_cmp nat_cmp row.duty.now.release release

-- a duty of the release with this name
abbrev pub is_held_by : List ℕ → Held → Bool
is_held_by release row = bytes_eq row.duty.now.release release

-- this side fits the order, so that the duties of a release are found by halving
pub held_splits : (release : List ℕ) → IsSideOf held_order (held_side release)
held_splits release = side_by held_order (λ (row : Held). row.duty.now.release) (slice_cmp nat_cmp)
    nat_list_cmp_total (λ x y e. e) release
