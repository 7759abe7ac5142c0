use Rattle.std.proofs.Common.{take, map}
use Rattle.desk_tree_problems.specs.Rows.{missing_row}
use Rattle.desk_tree_reports.specs.Telling.{AddsRows}
use Rattle.desk_tree_reports.proofs.telling.add_missing.Given as goal

abbrev pub invariant-loop-place : goal.invariant-loop-place
invariant-loop-place l = AddsRows l.form (map missing_row (take l.place l.names)) l.initial.telling
    l.telling
