use Rattle.std.proofs.Common.{◌≤◌, length}
use Rattle.desk_sql_write.specs.Runs.{IsRun}
use Rattle.desk_sql_write.proofs.duty.last_run.Given as goal

-- the changes after those that are left are a run
abbrev pub invariant-loop-row : goal.invariant-loop-row
invariant-loop-row l = record {
  is : IsRun l.rows l.before l.first l.last.duty l.to;
  low : l.first ≤ l.last.duty;
}

abbrev pub decreases-loop-row : goal.decreases-loop-row
decreases-loop-row l = length l.before
