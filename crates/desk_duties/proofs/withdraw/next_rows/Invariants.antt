use Rattle.std.proofs.Common.{◌≡◌, ◌++◌, map, drop}
use Rattle.desk_history.specs.FromTables.{next_row}
use Rattle.desk_duties.proofs.withdraw.next_rows.Given as goal

abbrev pub invariant-loop-standing : goal.invariant-loop-standing
invariant-loop-standing l = l.rows ++ map (next_row l.made) (drop l.standing-index l.standings)
    ≡ map (next_row l.made) l.standings
