use Rattle.std.proofs.Common.{take}
use Rattle.desk_fill.specs.Subjects.{Indexes, text_entries}
use Rattle.desk_fill.proofs.index.text_index.Given as goal

-- those of the files so far are there
abbrev pub invariant-loop-fill : goal.invariant-loop-fill
invariant-loop-fill l = Indexes (text_entries (take l.fill-index l.fills)) l.index
