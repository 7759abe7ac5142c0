use Rattle.std.proofs.Common.{◌≡◌, ◌++◌, take, codes}
use Rattle.std.specs.List.{flat_map}
use Rattle.desk_report.specs.Columns.{duty_row, front_names, row_line, widths}
use Rattle.desk_report.proofs.columns.duties_columns.Given as goal

-- the names, and a row for each duty before the index
abbrev pub invariant-loop-line : goal.invariant-loop-line
invariant-loop-line l = l.text.items
    ≡ row_line (widths l.lines) front_names (codes "since")
    ++ flat_map (duty_row (widths l.lines)) (take l.line-index l.lines)
