use Rattle.std.proofs.Common.{◌≡◌, List, map, take, drop}
use Rattle.desk_sql_layout.specs.Cells.{change_cells}
use Rattle.desk_model.specs.declared.row.ChangeRow.{ChangeRow}
use Rattle.desk_sql_lookup.specs.Waivers.{AreSteps, waivers_in}
use Rattle.desk_sql_lookup.proofs.changes.with_waivers.Given as goal

-- what was read so far is the beginning of the list, and the waivers that are left are those after
-- it
abbrev pub invariant-loop-row : goal.invariant-loop-row
invariant-loop-row l =
    (xs : List ChangeRow) → AreSteps xs → l.rows ≡ map change_cells xs
    → l.fn.waivers ≡ waivers_in xs
    → (l.found.items ≡ take l.row-index xs) × (l.left ≡ waivers_in (drop l.row-index xs))
