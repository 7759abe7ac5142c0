-- Each change, and each last day of a waiver, has a key of its own, since a database keeps the keys
-- of its tables unique.
use Rattle.std.proofs.Common.{◌≡◌, ℤ, Bool, true, false, List, [], ◌∷◌, map, refl, sym, ap}
use Rattle.std.proofs.Common.{◌∙◌, IsPermutation, is_lt, is_eq}
use Rattle.std.specs.Cmp.{IsTotalOrder}
use Rattle.std.specs.List.{IsDistinct}
use Rattle.std.specs.Ordering.{int_cmp, ordering_reverse, ordering_then}
use Rattle.std.specs.declared.cmp.Ordering.{Ordering}
use Rattle.std.specs.declared.cmp.Ordering.TheVariants.{Less, Equal, Greater}
use Rattle.std.proofs.lemmas.List.Sorted.{IsPermutation-sym}
use Rattle.std.proofs.lemmas.Map.Keys.{IsDistinct-IsPermutation}
use Rattle.sqlite.specs.Effect.{Database}
use Rattle.sqlite_value.specs.declared.value.Value.TheVariants.{Int}
use Rattle.sqlite_value.specs.Order.{Row}
use Rattle.sqlite_value.proofs.OrderLemmas.{value_cmp-Int, then-Equal}
use Rattle.sqlite_trees.specs.Tree.{IsAscending}
use Rattle.sqlite_trees.proofs.ListLemmas.{ascending-map, ascending_from_map, ascending_weaker}
use Rattle.sqlite_sql.specs.Query.{key_cmp}
use Rattle.sqlite_sql.proofs.QueryLemmas.{key_cmp_total}
use Rattle.desk_base.proofs.Orders.{is_eq-reverse}
use Rattle.desk_history.specs.Laws.{Rises}
use Rattle.desk_model.specs.Keys.{below_by}
use Rattle.desk_snapshot.specs.Orders.{change_order, change_total, waiver_order, waiver_total}
use Rattle.desk_snapshot.specs.declared.snapshot.Snapshot.{Snapshot}
use Rattle.desk_sql_layout.specs.Held.{HasRows, labelled}
use Rattle.desk_sql_layout.specs.Layout as d
use Rattle.desk_sql_layout.specs.Stored.{cells}
use Rattle.desk_sql_layout.proofs.Selects.{AreApart, by_unique}
use Rattle.desk_sql_layout.proofs.Ties.{are_keys, keys, picked}
use Rattle.desk_sql_scan.specs.Cells.{stored_change_cells, stored_waiver_cells}
use Rattle.desk_sql_scan.specs.Scans.{IsInOrder, IsSnapshot, stored_rows}
use Rattle.desk_beside.specs.Shown.{HaveOwnSteps}
use Rattle.desk_beside.proofs.Natural.{of_each}

-- ---- rows by their cells

-- what no two of some cells share, no two rows with these cells share, in whatever order
none_shared : {X : Type 0} (f : X → Row) (shared : Row → Row → Bool)
    → ((a b : Row) → shared a b ≡ shared b a) → (xs : List X) (cs : List Row)
    → IsPermutation (map f xs) cs → IsAscending (λ a b. shared a b ≡ false) cs
    → IsAscending (λ x y. shared (f x) (f y) ≡ false) xs
unfolding IsDistinct
none_shared f shared flips xs cs same apart = ascending_from_map (λ a b. shared a b ≡ false) f xs
    (back (map f xs) (IsDistinct-IsPermutation shared flips cs (map f xs)
    (IsPermutation-sym _ _ same) (there cs apart)))
  where
    there : (rows : List Row) → IsAscending (λ a b. shared a b ≡ false) rows
        → IsDistinct shared rows
    there [] h = tt
    there (x ∷ rows) h = (h.0, there rows h.1)

    back : (rows : List Row) → IsDistinct shared rows
        → IsAscending (λ a b. shared a b ≡ false) rows
    back [] h = tt
    back (x ∷ rows) h = (h.0, back rows h.1)

-- rows in order, no two with one key
rises_by : {X : Type 0} (order : X → X → Ordering) → IsTotalOrder order → (xs : List X)
    → IsInOrder order xs → IsAscending (λ x y. is_eq (order x y) ≡ false) xs
    → Rises (below_by order) xs
rises_by order total [] up apart = tt
rises_by {X} order total (x ∷ xs) up apart = (
  λ y there. less (order x y) (order y x) (total.antisymm y x)
      (of_each (λ (y : X). is_lt (order y x) ≡ false) xs up.0 y there)
      (of_each (λ (y : X). is_eq (order x y) ≡ false) xs apart.0 y there),
  rises_by order total xs up.1 apart.1,
)
  where
    less : (o p : Ordering) → p ≡ ordering_reverse o → is_lt p ≡ false → is_eq o ≡ false
        → is_lt o ≡ true
    less Less p turned up apart = refl
    less Equal p turned up apart = absurd (cc)
    less Greater p turned up apart = absurd (let it = ap is_lt turned in cc)

-- ---- keys of two numbers, in the first two cells

abbrev first_two : Row → Row
first_two = picked (0 ∷ 1 ∷ [])

abbrev shared : Row → Row → Bool
shared a b = is_eq (key_cmp 0 (keys (0 ∷ 1 ∷ [])) (first_two a) (first_two b))

flips : (a b : Row) → shared a b ≡ shared b a
flips a b =
    ap is_eq ((key_cmp_total (keys (0 ∷ 1 ∷ [])) 0).antisymm (first_two a) (first_two b))
    ∙ is_eq-reverse (key_cmp 0 (keys (0 ∷ 1 ∷ [])) (first_two b) (first_two a))

two_numbers : (m n k l : ℤ)
    → key_cmp 0 (keys (0 ∷ 1 ∷ [])) (Int m ∷ Int n ∷ []) (Int k ∷ Int l ∷ [])
    ≡ ordering_then (int_cmp m k) (int_cmp n l)
two_numbers m n k l = rw (value_cmp-Int m k, value_cmp-Int n l, then-Equal (int_cmp n l)) refl

module _ (s : Snapshot) (db : Database) (has : HasRows (stored_rows s) db)
    (it : IsSnapshot s db) where
  change_cells_apart : AreApart (1 ∷ 2 ∷ []) (labelled db d.change_table.tree)
  change_cells_apart =
      let this = d.change_table in
      by_unique this.name this.tree this.columns this.key this.primary this.uniques this.orders 13
      refl stored_change_cells (stored_rows s) s.changes refl db has 0 (1 ∷ 2 ∷ []) refl refl
      (are_keys (0 ∷ 1 ∷ [])) (λ r. refl) (λ x. refl)

  changes_apart : IsAscending (λ x y. is_eq (change_order x y) ≡ false) s.changes
  changes_apart = ascending_weaker
      (λ x y. shared (stored_change_cells x) (stored_change_cells y) ≡ false)
      (λ x y. is_eq (change_order x y) ≡ false)
      (λ x y h. sym (ap is_eq (two_numbers x.duty x.step y.duty y.step)) ∙ h) s.changes
      (none_shared stored_change_cells shared flips s.changes
      (map (cells d.change_table) (labelled db d.change_table.tree)) it.changes.shown
      (ascending-map (λ a b. shared a b ≡ false) (cells d.change_table)
      (labelled db d.change_table.tree) change_cells_apart))

  waiver_cells_apart : AreApart (1 ∷ 2 ∷ []) (labelled db d.waiver_table.tree)
  waiver_cells_apart =
      let this = d.waiver_table in
      by_unique this.name this.tree this.columns this.key this.primary this.uniques this.orders 15
      refl stored_waiver_cells (stored_rows s) s.waiver refl db has 0 (1 ∷ 2 ∷ []) refl refl
      (are_keys (0 ∷ 1 ∷ [])) (λ r. refl) (λ x. refl)

  waivers_apart : IsAscending (λ x y. is_eq (waiver_order x y) ≡ false) s.waiver
  waivers_apart = ascending_weaker
      (λ x y. shared (stored_waiver_cells x) (stored_waiver_cells y) ≡ false)
      (λ x y. is_eq (waiver_order x y) ≡ false)
      (λ x y h. sym (ap is_eq (two_numbers x.duty x.step y.duty y.step)) ∙ h) s.waiver
      (none_shared stored_waiver_cells shared flips s.waiver
      (map (cells d.waiver_table) (labelled db d.waiver_table.tree)) it.waiver.shown
      (ascending-map (λ a b. shared a b ≡ false) (cells d.waiver_table)
      (labelled db d.waiver_table.tree) waiver_cells_apart))

  pub own_steps : HaveOwnSteps s
  own_steps = record {
    changes = rises_by change_order change_total s.changes it.changes.ordered changes_apart;
    waivers = rises_by waiver_order waiver_total s.waiver it.waiver.ordered waivers_apart;
  }
