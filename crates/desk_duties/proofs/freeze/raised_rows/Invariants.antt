use Rattle.std.proofs.Common.{◌≡◌, ◌++◌, map, drop}
use Rattle.desk_history.specs.FromTables.{raised_row}
use Rattle.desk_duties.proofs.freeze.raised_rows.Given as goal

abbrev pub invariant-loop-duty : goal.invariant-loop-duty
invariant-loop-duty l = l.rows.items ++ map (raised_row l.day) (drop l.duty-index l.duties)
    ≡ map (raised_row l.day) l.duties
