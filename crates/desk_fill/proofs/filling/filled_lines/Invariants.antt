use Rattle.std.proofs.Common.{◌≡◌, ◌++◌, List, map}
use Rattle.desk_fill.specs.Filling.{filled_line}
use Rattle.desk_fill.specs.Subjects.{Indexes, credit_entries}
use Rattle.desk_fill.specs.declared.fill.Fill.{Fill}
use Rattle.desk_fill.proofs.filling.filled_lines.Given as goal

-- the lines so far, with those of the rest, are those of all
abbrev pub invariant-loop-line : goal.invariant-loop-line
invariant-loop-line l = (fills : List Fill) → Indexes (credit_entries fills) l.index
    → l.filled.items ++ map (filled_line fills) l.line-iterator.rest.items
    ≡ map (filled_line fills) l.fn.lines
