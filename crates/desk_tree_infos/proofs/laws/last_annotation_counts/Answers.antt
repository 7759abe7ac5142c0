use Rattle.desk_tree_infos.proofs.LastCounts.{last_counts, none_counts}
use Rattle.desk_tree_infos.proofs.laws.last_annotation_counts.Goals as goal

pub returns : goal.returns
returns c = record { last = last_counts; none = none_counts }
