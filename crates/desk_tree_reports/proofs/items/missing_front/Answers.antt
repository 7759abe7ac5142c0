use Rattle.desk_tree_reports.specs.Items.{missing_front}
use Rattle.desk_tree_reports.proofs.items.missing_front.Goals as goal

pub returns : goal.returns
unfolding missing_front
returns c = c.copy_bytes.ensures
