use Rattle.std.proofs.Common.{◌≡◌, length}
use Rattle.desk_tree_gather.specs.Paths.{name_of, name_from}
use Rattle.desk_tree_gather.proofs.paths.name_of.Given as goal

abbrev pub invariant-loop-byte : goal.invariant-loop-byte
invariant-loop-byte l = name_from l.name l.rest ≡ name_of l.path

abbrev pub decreases-loop-byte : goal.decreases-loop-byte
decreases-loop-byte l = length l.rest
