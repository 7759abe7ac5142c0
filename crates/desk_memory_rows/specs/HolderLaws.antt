-- Holders ascend, and the keys that they are looked up by split them.
use Rattle.std.proofs.Common.{◌≡◌, ℕ, List}
use Rattle.std.specs.Prelude.{◌&&◌, ◌==◌}
use Rattle.std.specs.Ordering.{nat_cmp, is_eq, ordering_then, on, then_cmp}
use Rattle.std.specs.Cmp.{IsTotalOrder}
use Rattle.std.specs.Cmp.Lexicographic.{slice_cmp}
use Rattle.std.specs.Str.{bytes_eq}
use Rattle.std.specs.declared.cmp.Ordering.{Ordering}
use Rattle.std.proofs.lemmas.Cmp.{on_total, then_total, nat_list_cmp_total, nat_cmp_total}
use Rattle.desk_sorted.specs.Sorted.{IsSideOf}
use Rattle.desk_sorted.specs.Sides.{side_by, first_less, texts_meet, numbers_meet, then_meets, number_cmp, number_total}
use Rattle.desk_memory_rows.specs.Holders.{held_side, holder_order, holding_side, is_held, is_holding}
use Rattle.desk_memory_rows.specs.declared.holders.Holder.{Holder}

-- any two holders can be compared
pub holder_total : IsTotalOrder holder_order
holder_total =
    then_total (then_total (then_total (on_total (λ row. row.document) nat_cmp_total)
    (on_total (λ row. row.package_id) nat_list_cmp_total))
    (on_total (λ row. row.place) nat_cmp_total))
    (on_total (λ row. row.release) nat_list_cmp_total)

-- in the order of holders those for one package are next to each other
pub held_splits : (document : ℕ) (id : List ℕ) → IsSideOf holder_order (held_side document id)
held_splits document id =
    side_by holder_order (λ row. (row.document, row.package_id)) number_cmp number_total
    (λ x y e. first_less (ordering_then
    (ordering_then (nat_cmp y.document x.document) (slice_cmp nat_cmp y.package_id x.package_id))
    (nat_cmp y.place x.place)) (slice_cmp nat_cmp y.release x.release)
    (first_less (ordering_then (nat_cmp y.document x.document)
    (slice_cmp nat_cmp y.package_id x.package_id)) (nat_cmp y.place x.place) e))
    (document, id)

-- keys made of a number, a text, a number and a text, compared part by part
abbrev four_cmp : ℕ × List ℕ × ℕ × List ℕ → ℕ × List ℕ × ℕ × List ℕ → Ordering
four_cmp = then_cmp (then_cmp (then_cmp (on (λ p. p.0) nat_cmp) (on (λ p. p.1) (slice_cmp nat_cmp)))
    (on (λ p. p.2) nat_cmp)) (on (λ p. p.3) (slice_cmp nat_cmp))

-- the same for the holder of a choice for a package in one release
pub holding_splits : (document : ℕ) (id : List ℕ) (place : ℕ) (release : List ℕ)
    → IsSideOf holder_order (holding_side document id place release)
holding_splits document id place release =
    side_by holder_order (λ row. (row.document, row.package_id, row.place, row.release)) four_cmp
    (then_total (then_total (then_total (on_total (λ p. p.0) nat_cmp_total)
    (on_total (λ p. p.1) nat_list_cmp_total)) (on_total (λ p. p.2) nat_cmp_total))
    (on_total (λ p. p.3) nat_list_cmp_total))
    (λ x y e. e) (document, id, place, release)

-- a holder is for a package if and only if its side is Equal
pub held_meets : (document : ℕ) (id : List ℕ) (row : Holder)
    → is_held document id row ≡ is_eq (held_side document id row)
held_meets document id row =
    then_meets (nat_cmp row.document document) (slice_cmp nat_cmp row.package_id id)
    (row.document == document) (bytes_eq row.package_id id) (numbers_meet row.document document)
    (texts_meet row.package_id id)

-- the same for a package in one release
pub holding_meets : (document : ℕ) (id : List ℕ) (place : ℕ) (release : List ℕ) (row : Holder)
    → is_holding document id place release row ≡ is_eq (holding_side document id place release row)
holding_meets document id place release row =
    then_meets (ordering_then (held_side document id row) (nat_cmp row.place place))
    (slice_cmp nat_cmp row.release release)
    (is_held document id row && (row.place == place)) (bytes_eq row.release release)
    (then_meets (held_side document id row) (nat_cmp row.place place) (is_held document id row)
    (row.place == place) (held_meets document id row) (numbers_meet row.place place))
    (texts_meet row.release release)
