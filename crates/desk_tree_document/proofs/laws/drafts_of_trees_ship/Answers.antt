use Rattle.desk_tree_document.proofs.Trees.{ships_tree}
use Rattle.desk_tree_document.proofs.laws.drafts_of_trees_ship.Goals as goal

pub returns : goal.returns
returns c = ships_tree
