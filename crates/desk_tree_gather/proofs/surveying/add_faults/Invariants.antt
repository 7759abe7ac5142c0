use Rattle.std.proofs.Common.{◌≡◌, ◌++◌, take, map}
use Rattle.desk_tree_gather.specs.Survey.{flaw_of}
use Rattle.desk_tree_gather.proofs.surveying.add_faults.Given as goal

abbrev pub invariant-loop-fault : goal.invariant-loop-fault
invariant-loop-fault l = l.flaws ≡ l.initial.flaws
    ++ map (flaw_of l.path) (take l.fault-index l.faults)
