use Rattle.std.proofs.Common.{take}
use Rattle.desk_alts.specs.Masks.{IsAbove, IsSubset, Adds, union_masks}
use Rattle.desk_alts.proofs.kept.Kept.add_unions.Given as goal

abbrev pub invariant-loop-at : goal.invariant-loop-at
invariant-loop-at l = Adds (union_masks l.initial.unions.items) (union_masks l.unions.items)
    (λ m. IsSubset l.mask m × IsAbove (take l.at l.self) m)
