use Rattle.desk_tree_reports.specs.Items.{missing_end}
use Rattle.desk_tree_reports.proofs.items.missing_end.Goals as goal

pub returns : goal.returns
unfolding missing_end
returns c = c.copy_bytes.ensures
