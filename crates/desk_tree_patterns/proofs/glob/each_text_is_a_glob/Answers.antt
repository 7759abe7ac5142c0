use Rattle.desk_tree_patterns.proofs.GlobOnce.{each_spelled}
use Rattle.desk_tree_patterns.proofs.glob.each_text_is_a_glob.Goals as goal

pub returns : goal.returns
returns c = each_spelled
