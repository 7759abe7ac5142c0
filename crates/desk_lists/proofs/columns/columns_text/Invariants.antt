use Rattle.std.proofs.Common.{◌≡◌, take}
use Rattle.std.specs.List.{flat_map}
use Rattle.desk_lists.specs.Columns.{row_line, widths}
use Rattle.desk_lists.proofs.columns.columns_text.Given as goal

-- a line for each row before the index
abbrev pub invariant-loop-row : goal.invariant-loop-row
invariant-loop-row l = l.text.items ≡ flat_map (row_line (widths l.rows)) (take l.row-index l.rows)
