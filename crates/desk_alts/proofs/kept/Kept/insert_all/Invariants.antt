use Rattle.std.proofs.Common.{take}
use Rattle.desk_alts.specs.Masks.{IsAbove, AreApart, Adds}
use Rattle.desk_alts.proofs.kept.Kept.insert_all.Given as goal

abbrev pub invariant-loop-at : goal.invariant-loop-at
invariant-loop-at l = record {
  apart : AreApart l.self;
  exact : Adds l.initial.self l.self (IsAbove (take l.at l.other));
}
