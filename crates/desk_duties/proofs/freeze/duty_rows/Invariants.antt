use Rattle.std.proofs.Common.{◌≡◌, ◌+◌, map, length}
use Rattle.std.specs.List.{enumerate_from}
use Rattle.desk_history.specs.FromTables.{new_duty}
use Rattle.desk_duties.proofs.freeze.duty_rows.Given as goal

abbrev pub invariant-loop-owed : goal.invariant-loop-owed
invariant-loop-owed l = record {
  number : l.number ≡ l.first + length l.yielded;
  rows : l.rows.items ≡ map new_duty (enumerate_from l.first l.yielded);
}
