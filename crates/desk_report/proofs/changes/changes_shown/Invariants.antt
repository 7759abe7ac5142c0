use Rattle.std.proofs.Common.{◌≡◌, take}
use Rattle.std.specs.List.{flat_map}
use Rattle.desk_report.specs.Lines.{change_shown}
use Rattle.desk_report.proofs.changes.changes_shown.Given as goal

-- a line for each change before the index
abbrev pub invariant-loop-change : goal.invariant-loop-change
invariant-loop-change l = l.text.items ≡ flat_map change_shown (take l.change-index l.changes)
