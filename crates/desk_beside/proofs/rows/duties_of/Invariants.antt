use Rattle.std.proofs.Common.{◌≡◌, ◌++◌, drop, map}
use Rattle.desk_snapshot.specs.Tables.{duty_stored}
use Rattle.desk_beside.proofs.rows.duties_of.Given as goal

-- what was read so far is the beginning of the list
abbrev pub invariant-loop-row : goal.invariant-loop-row
invariant-loop-row l = map duty_stored l.found.items ++ drop l.row-index l.rows ≡ l.rows
