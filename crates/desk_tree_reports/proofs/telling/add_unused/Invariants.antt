use Rattle.std.proofs.Common.{take, map}
use Rattle.desk_tree_problems.specs.Rows.{unused_row}
use Rattle.desk_tree_reports.specs.Telling.{AddsRows}
use Rattle.desk_tree_reports.proofs.telling.add_unused.Given as goal

abbrev pub invariant-loop-path : goal.invariant-loop-path
invariant-loop-path l = AddsRows l.form (map unused_row (take l.path-index l.paths)) l.initial.telling
    l.telling
