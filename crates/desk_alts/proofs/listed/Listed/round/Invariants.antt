use Rattle.std.proofs.Common.{◌≤◌, ◌-◌, ◌+◌, length}
use Rattle.desk_alts.specs.Rounds.{IsRound}
use Rattle.desk_alts.proofs.listed.Listed.round.Given as goal

-- a round so far
abbrev pub invariant-loop-next : goal.invariant-loop-next
invariant-loop-next l = record {
  onward : l.from + length l.candidates.items ≤ l.next;
  within : l.next ≤ length l.self.chosen.now;
  round : IsRound l.self.chosen.now l.from l.next l.candidates.items;
}

abbrev pub decreases-loop-next : goal.decreases-loop-next
decreases-loop-next l = length l.self.chosen.now - l.next
