use Rattle.std.proofs.Common.{◌≡◌, drop}
use Rattle.desk_model.specs.Queries.{last_day}
use Rattle.desk_memory_rows.proofs.Days.{last_or}
use Rattle.desk_memory_rows.proofs.ledger.last_of.Given as goal

abbrev pub invariant-loop-row : goal.invariant-loop-row
invariant-loop-row l = last_or l.day (drop l.row-index l.rows) ≡ last_day l.rows
