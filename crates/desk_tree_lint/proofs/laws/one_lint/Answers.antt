use Rattle.desk_tree_lint.proofs.UsedLemmas.{lint_once}
use Rattle.desk_tree_lint.proofs.laws.one_lint.Goals as goal

pub returns : goal.returns
returns c = lint_once
