use Rattle.std.proofs.Common.{◌≡◌, ◌++◌, take}
use Rattle.std.specs.List.{flat_map}
use Rattle.std.specs.String.{string_bytes}
use Rattle.desk_page.specs.Rows.{change_row}
use Rattle.desk_page.proofs.duties.add_duty_changes.Given as goal

-- a row for each change before the index
abbrev pub invariant-loop-change : goal.invariant-loop-change
invariant-loop-change l = string_bytes l.text ≡ string_bytes l.initial.text
    ++ flat_map change_row (take l.change-index l.changes)
