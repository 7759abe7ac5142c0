use Rattle.std.proofs.Common.{◌≡◌, ◌++◌, take}
use Rattle.std.specs.List.{flat_map}
use Rattle.std.specs.String.{string_bytes}
use Rattle.desk_page.specs.Rows.{change_row}
use Rattle.desk_page.proofs.duties.add_changes.Given as goal

-- rows for each duty before the index
abbrev pub invariant-loop-steps : goal.invariant-loop-steps
invariant-loop-steps l = string_bytes l.text ≡ string_bytes l.initial.text
    ++ flat_map (flat_map change_row) (take l.steps-index l.changes)
