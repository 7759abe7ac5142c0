use Rattle.std.proofs.Common.{take}
use Rattle.desk_alts.specs.Masks.{IsAbove, AreApart, Adds, union_masks}
use Rattle.desk_alts.proofs.kept.Kept.insert_unions.Given as goal

abbrev pub invariant-loop-union : goal.invariant-loop-union
invariant-loop-union l = record {
  apart : AreApart l.self;
  exact : Adds l.initial.self l.self (IsAbove (take l.union-index (union_masks l.unions)));
}
