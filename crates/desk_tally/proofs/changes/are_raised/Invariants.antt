use Rattle.std.proofs.Common.{◌≡◌, drop}
use Rattle.desk_tally.specs.Kept.{are_raised}
use Rattle.desk_tally.proofs.changes.are_raised.Given as goal

abbrev pub invariant-loop-duty : goal.invariant-loop-duty
invariant-loop-duty l = are_raised l.number l.release (drop l.duty-index l.duties)
    ≡ are_raised l.first l.release l.duties
