use Rattle.std.proofs.Common.{List, ◌++◌}
use Rattle.desk_base.specs.declared.lines.Line.{Line}
use Rattle.desk_base.specs.Lines.{AreLines}
use Rattle.desk_base.proofs.lines.Lines.listed.Given as goal

-- the lines of the rest, whatever they are, complete the list
abbrev pub invariant-loop-line : goal.invariant-loop-line
invariant-loop-line l = (ls : List Line)
    → AreLines l.line-iterator.number l.line-iterator.rest.now ls
    → AreLines 1 l.bytes (l.lines.items ++ ls)
