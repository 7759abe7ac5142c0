use Rattle.std.proofs.Common.{◌≡◌, drop}
use Rattle.desk_access.specs.Follows.{are_numbered}
use Rattle.desk_tally.proofs.counting.are_numbered.Given as goal

abbrev pub invariant-loop-duty : goal.invariant-loop-duty
invariant-loop-duty l = are_numbered l.number (drop l.duty-index l.duties) ≡ are_numbered 1 l.duties
