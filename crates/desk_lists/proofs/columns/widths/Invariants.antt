use Rattle.std.proofs.Common.{◌≡◌, drop}
use Rattle.desk_lists.specs.Columns.{widths, widths_with}
use Rattle.desk_lists.proofs.columns.widths.Given as goal

-- with the rows from the index on, the widths are those of all
abbrev pub invariant-loop-row : goal.invariant-loop-row
invariant-loop-row l = widths_with l.found.items (drop l.row-index l.rows) ≡ widths l.table
