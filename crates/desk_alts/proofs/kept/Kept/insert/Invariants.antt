use Rattle.std.proofs.Common.{◌-◌, length}
use Rattle.desk_alts.proofs.Inserting.{Clears}
use Rattle.desk_alts.proofs.kept.Kept.insert.Given as goal

abbrev pub invariant-loop-at : goal.invariant-loop-at
invariant-loop-at l = Clears l.initial.self l.self l.mask l.at

abbrev pub decreases-loop-at : goal.decreases-loop-at
decreases-loop-at l = length l.self - l.at
