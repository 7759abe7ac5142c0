use Rattle.desk_tree_patterns.specs.Parts.{pieces}
use Rattle.desk_tree_patterns.specs.Steps.{state}
use Rattle.desk_tree_patterns.proofs.Greedy.{Holds}
use Rattle.desk_tree_patterns.proofs.matching.found_within.Given as goal

abbrev pub invariant-loop : goal.invariant-loop
invariant-loop l =
    Holds (pieces l.fn.bytes l.fn.parts) l.fn.path (state l.search)
