use Rattle.std.proofs.Common.{◌-◌, ◌≤◌, drop}
use Rattle.desk_import.proofs.WalkLemmas.{Behind}
use Rattle.desk_import.proofs.walk.seek.Given as goal

-- the steps so far were passed
abbrev pub invariant-loop-index : goal.invariant-loop-index
invariant-loop-index l = record {
  within : l.left ≤ l.lines;
  behind : Behind l.steps (drop l.index l.steps) (l.lines - l.left);
}
