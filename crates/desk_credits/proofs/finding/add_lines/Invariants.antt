use Rattle.std.proofs.Common.{◌≡◌, List, ◌++◌}
use Rattle.desk_base.specs.Lines.{LineText, CutsInto}
use Rattle.desk_credits.specs.Finding.{found_on}
use Rattle.desk_credits.specs.Notices.{IsKnown, with_notices}
use Rattle.desk_credits.proofs.finding.add_lines.Given as goal

-- the lines so far, with those of the rest, are all lines, and their notices are there
abbrev pub invariant-loop-line : goal.invariant-loop-line
invariant-loop-line l = IsKnown l.known × ((before : List LineText)
    × ((more : List LineText) → CutsInto l.line-iterator.number l.line-iterator.rest.now more
    → CutsInto 1 l.bytes (before ++ more))
    × (l.known.notices.items ≡ with_notices l.initial.known.notices.items
    (found_on l.path before)))
