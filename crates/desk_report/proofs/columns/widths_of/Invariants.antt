use Rattle.std.proofs.Common.{◌≡◌, map, take}
use Rattle.desk_report.specs.Columns.{width}
use Rattle.desk_report.proofs.columns.widths_of.Given as goal

-- the width of each text before the index
abbrev pub invariant-loop-text : goal.invariant-loop-text
invariant-loop-text l = l.widths.items ≡ map (λ text. width text.now) (take l.text-index l.texts)
