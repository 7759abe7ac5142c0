use Rattle.std.proofs.Common.{take, map}
use Rattle.desk_tree_problems.specs.Rows.{bare_row}
use Rattle.desk_tree_reports.specs.Telling.{AddsRows}
use Rattle.desk_tree_reports.proofs.telling.add_bare.Given as goal

abbrev pub invariant-loop-bare : goal.invariant-loop-bare
invariant-loop-bare l = AddsRows l.form (map bare_row (take l.bare-index l.files)) l.initial.telling
    l.telling
