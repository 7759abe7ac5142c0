use Rattle.std.proofs.Common.{◌≡◌, take}
use Rattle.desk_credits.specs.Answers.{flaw_lines}
use Rattle.desk_credits.proofs.answers.flaw_lines.Given as goal

-- the lines of those so far
abbrev pub invariant-loop-flaw : goal.invariant-loop-flaw
invariant-loop-flaw l = l.notes.items ≡ flaw_lines (take l.flaw-index l.flaws)
