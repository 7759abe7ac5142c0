use Rattle.std.proofs.Common.{rules, subst}
use Rattle.std.specs.Prelude.{IsPermutation, List}
use Rattle.std.proofs.lemmas.List.Sorted.{ranks_by, IsPermutation-map}
use Rattle.std.specs.Cmp.{IsStrictWeakOrder}
use Rattle.std.proofs.lemmas.Fn.{always_returns_same}
use Rattle.desk_model.specs.Keys.{below_by}
use Rattle.desk_snapshot.specs.declared.rows.StoredDuty.{StoredDuty}
use Rattle.desk_lists.specs.Held.{duties_held, held_order, held_total}
use Rattle.desk_lists.specs.declared.held.Held.{Held}
use Rattle.desk_sorted.proofs.Sorting.{ascends-sorted}
use Rattle.desk_lists.proofs.held.held_by_release.Goals as goal

pub invariant_of-result : goal.invariant_of-result
invariant_of-result c =
    let order : IsStrictWeakOrder (below_by held_order) = ranks_by held_total (λ (x : Held). x) in
    record {
      ascending = ascends-sorted (below_by held_order) order c.sort_by.new.self.items
          (c.in_ok-sort_by.ensures.sorted (below_by held_order) order
          (always_returns_same _ _ _ (λ a r f k. search rules)));
    }

pub returns : goal.returns
returns c =
    let same : IsPermutation (duties_held c.in_ok-rows.rows.items) (duties_held
    c.sort_by.new.self.items) =
    IsPermutation-map (λ (row : Held). row.duty.now) c.in_ok-rows.rows.items
    c.sort_by.new.self.items c.in_ok-sort_by.ensures.permutation in
    let P : List StoredDuty → Type 0 =
    λ duties. IsPermutation duties (duties_held c.sort_by.new.self.items) in
    subst P c.in_ok-rows.ensures same
