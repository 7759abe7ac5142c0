use Rattle.std.proofs.Common.{◌≡◌, take, map}
use Rattle.desk_tree_annotations.specs.Tags.{tag_text}
use Rattle.desk_tree_gather.specs.Gathering.{values}
use Rattle.desk_tree_gather.proofs.gathering.values.Given as goal

abbrev pub invariant-loop-tag : goal.invariant-loop-tag
invariant-loop-tag l = l.values ≡ values (map tag_text (take l.tag-index l.tags))
