use Rattle.std.proofs.Common.{◌≡◌, List, take}
use Rattle.desk_tree_problems.specs.declared.row.Row.{Row}
use Rattle.desk_tree_reports.specs.Reports.{counts_of}
use Rattle.desk_tree_problems.specs.Rows.{AreRows}
use Rattle.desk_tree_reports.proofs.summary.counts_of.Given as goal

abbrev pub invariant-loop-kind : goal.invariant-loop-kind
invariant-loop-kind l = (rows : List Row) → AreRows l.problems rows
    → l.text.items ≡ counts_of (take l.kind-index l.kinds) rows
