use Rattle.std.proofs.Common.{◌≡◌, ◌++◌, take}
use Rattle.std.specs.List.{flat_map}
use Rattle.desk_base.specs.Terminal.{shown}
use Rattle.desk_lists.proofs.columns.add_each_shown.Given as goal

-- each cell before the index
abbrev pub invariant-loop-cell : goal.invariant-loop-cell
invariant-loop-cell l = l.text.items ≡ l.initial.text.items
    ++ flat_map shown (take l.cell-index l.cells)
