use Rattle.std.proofs.Common.{◌≡◌, ◌++◌, drop, map}
use Rattle.desk_snapshot.specs.Tables.{release_stored}
use Rattle.desk_beside.proofs.rows.releases_of.Given as goal

-- what was read so far is the beginning of the list
abbrev pub invariant-loop-row : goal.invariant-loop-row
invariant-loop-row l = map release_stored l.found.items ++ drop l.row-index l.rows ≡ l.rows
