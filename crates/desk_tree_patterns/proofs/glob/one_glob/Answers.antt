use Rattle.desk_tree_patterns.proofs.GlobOnce.{spells_once}
use Rattle.desk_tree_patterns.proofs.glob.one_glob.Goals as goal

pub returns : goal.returns
returns c = spells_once
