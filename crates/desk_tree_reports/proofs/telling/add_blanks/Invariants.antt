use Rattle.std.proofs.Common.{take, map}
use Rattle.desk_tree_problems.specs.Rows.{blank_row}
use Rattle.desk_tree_reports.specs.Telling.{AddsRows}
use Rattle.desk_tree_reports.proofs.telling.add_blanks.Given as goal

abbrev pub invariant-loop-blank : goal.invariant-loop-blank
invariant-loop-blank l = AddsRows l.form (map blank_row (take l.blank-index l.blanks)) l.initial.telling
    l.telling
