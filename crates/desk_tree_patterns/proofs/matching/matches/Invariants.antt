use Rattle.std.proofs.Common.{length}
use Rattle.desk_tree_patterns.specs.Parts.{pieces}
use Rattle.desk_tree_patterns.specs.Steps.{state}
use Rattle.desk_tree_patterns.proofs.Greedy.{Holds}
use Rattle.desk_tree_patterns.proofs.Falls.{Within, work}
use Rattle.desk_tree_patterns.proofs.matching.matches.Given as goal

abbrev pub invariant-loop-search : goal.invariant-loop-search
invariant-loop-search l = record {
  holds : Holds (pieces l.fn.bytes l.fn.parts) l.fn.path (state l.search);
  within : Within (length (pieces l.fn.bytes l.fn.parts)) (length l.fn.path) (state l.search);
}

abbrev pub decreases-loop-search : goal.decreases-loop-search
decreases-loop-search l = work (length (pieces l.fn.bytes l.fn.parts)) (length l.fn.path)
    (state l.search)
