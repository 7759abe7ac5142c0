use Rattle.std.proofs.Common.{◌≡◌, drop}
use Rattle.desk_report.specs.Columns.{widths, widths_with}
use Rattle.desk_report.proofs.columns.widths.Given as goal

-- with the duties from the index on, the widths are those of all
abbrev pub invariant-loop-line : goal.invariant-loop-line
invariant-loop-line l = widths_with l.found.items (drop l.line-index l.lines) ≡ widths l.lines
