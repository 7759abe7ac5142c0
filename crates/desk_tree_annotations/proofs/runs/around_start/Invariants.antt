use Rattle.std.proofs.Common.{◌-◌, ◌≤◌, length}
use Rattle.desk_tree_annotations.specs.Runs.{start}
use Rattle.desk_tree_annotations.specs.Skipping.{IsClear}
use Rattle.desk_tree_annotations.proofs.StartLemmas.{HasNoFeed}
use Rattle.desk_tree_annotations.proofs.runs.around_start.Given as goal

-- neither the line ends nor a start begins in what is seen
abbrev pub invariant-loop-more : goal.invariant-loop-more
invariant-loop-more l = record {
  within : l.seen ≤ length l.bytes;
  no_feed : HasNoFeed l.bytes l.seen;
  clear : IsClear start l.seen l.bytes;
}

abbrev pub decreases-loop-more : goal.decreases-loop-more
decreases-loop-more l = length l.bytes - l.seen
