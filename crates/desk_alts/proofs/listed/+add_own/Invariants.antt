use Rattle.desk_expr.specs.Tree.{tree_size}
use Rattle.desk_alts.proofs.listed.+add_own.Given as goal

abbrev pub decreases-add_own : goal.decreases-add_own
decreases-add_own l = tree_size l.expr.now
