use Rattle.desk_tree_patterns.proofs.Slashes.{as_many}
use Rattle.desk_tree_patterns.proofs.glob.stars_take_no_slash.Goals as goal

pub returns : goal.returns
returns c = as_many
