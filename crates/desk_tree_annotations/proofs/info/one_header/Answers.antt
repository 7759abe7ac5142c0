use Rattle.desk_tree_annotations.proofs.TagOnce.{info_once}
use Rattle.desk_tree_annotations.proofs.info.one_header.Goals as goal

pub returns : goal.returns
returns c = info_once
