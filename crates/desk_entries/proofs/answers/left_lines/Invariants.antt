use Rattle.std.proofs.Common.{◌≡◌, take}
use Rattle.desk_entries.specs.Answers.{left_lines}
use Rattle.desk_entries.proofs.answers.left_lines.Given as goal

-- the lines of those so far
abbrev pub invariant-loop-one : goal.invariant-loop-one
invariant-loop-one l = l.notes.items ≡ left_lines (take l.one-index l.left)
