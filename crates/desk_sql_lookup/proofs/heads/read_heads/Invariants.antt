use Rattle.std.proofs.Common.{◌≡◌, List, map, take}
use Rattle.desk_sql_layout.specs.Cells.{reading_cells}
use Rattle.desk_model.specs.Queries.{head_of}
use Rattle.desk_model.specs.declared.row.DocumentRow.{DocumentRow}
use Rattle.desk_sql_layout.specs.Shown.{name_cells}
use Rattle.desk_sql_lookup.proofs.heads.read_heads.Given as goal

-- what was read so far is the beginning of the list
abbrev pub invariant-loop-i : goal.invariant-loop-i
invariant-loop-i l = (xs : List DocumentRow) → l.names ≡ map name_cells xs
    → l.readings ≡ map reading_cells xs → l.heads.items ≡ map head_of (take l.i xs)
