use Rattle.std.proofs.Common.{◌≡◌, length}
use Rattle.desk_credits.specs.Patterns.{has_tag}
use Rattle.desk_credits.proofs.patterns.has_tag.Given as goal

-- what is left decides
abbrev pub invariant-loop-after : goal.invariant-loop-after
invariant-loop-after l = has_tag l.rest ≡ has_tag l.bytes

abbrev pub decreases-loop-after : goal.decreases-loop-after
decreases-loop-after l = length l.rest
