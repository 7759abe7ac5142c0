use Rattle.std.proofs.Common.{take}
use Rattle.desk_fill.specs.Subjects.{Indexes, credit_entries}
use Rattle.desk_fill.proofs.index.credit_index.Given as goal

-- those of the files so far are there
abbrev pub invariant-loop-fill : goal.invariant-loop-fill
invariant-loop-fill l = Indexes (credit_entries (take l.fill-index l.fills)) l.index
