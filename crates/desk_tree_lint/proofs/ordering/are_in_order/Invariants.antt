use Rattle.desk_tree_lint.proofs.OrderLemmas.{Climbs}
use Rattle.desk_tree_lint.proofs.ordering.are_in_order.Given as goal

abbrev pub invariant-loop-place : goal.invariant-loop-place
invariant-loop-place l = Climbs l.keys l.place
