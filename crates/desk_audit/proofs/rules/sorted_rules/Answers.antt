use Rattle.std.proofs.Common.{rules}
use Rattle.std.proofs.lemmas.List.Sorted.{ranks_by}
use Rattle.std.proofs.lemmas.Fn.{always_returns_same}
use Rattle.desk_model.specs.Keys.{below_by}
use Rattle.desk_audit.specs.Spelled.{spelled_order, spelled_total}
use Rattle.desk_sorted.proofs.Sorting.{ascends-sorted}
use Rattle.desk_audit.proofs.Ruled.{rules_found}
use Rattle.desk_audit.proofs.rules.sorted_rules.Goals as goal

pub invariant_of-result : goal.invariant_of-result
invariant_of-result c =
    let order = ranks_by spelled_total (λ x. x) in
    record {
      ascending = ascends-sorted (below_by spelled_order) order c.sort_by.new.self.items
          (c.in_ok-sort_by.ensures.sorted (below_by spelled_order) order
          (always_returns_same _ _ _ (λ a r f k. search rules)));
    }

pub returns : goal.returns
returns c =
    rules_found c.args.rules.now c.in_ok-rows.rows.items c.sort_by.new.self.items
    c.in_ok-rows.ensures c.in_ok-sort_by.ensures.permutation
    (c.in_ok-sort_by.ensures.stable (below_by spelled_order) (ranks_by spelled_total (λ x. x))
    (always_returns_same _ _ _ (λ a r f k. search rules)))
