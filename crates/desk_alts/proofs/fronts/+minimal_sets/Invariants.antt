use Rattle.std.proofs.Common.{take}
use Rattle.desk_expr.specs.Tree.{parts_of, all, any, tree_size}
use Rattle.desk_alts.specs.Choices.{AreMinimal}
use Rattle.desk_alts.proofs.Widths.{IsNarrowTo}
use Rattle.desk_alts.proofs.fronts.+minimal_sets.Given as goal

-- the kept sets are the minimal ones of the front so far
abbrev pub invariant-loop-part : goal.invariant-loop-part
invariant-loop-part l = record {
  minimal : AreMinimal l.table (all (parts_of (take l.part-index l.parts))) l.kept;
  narrow : IsNarrowTo all l.parts l.part-index;
}

abbrev pub invariant-loop-part-2 : goal.invariant-loop-part-2
invariant-loop-part-2 l = record {
  minimal : AreMinimal l.table (any (parts_of (take l.part-index l.parts))) l.kept;
  narrow : IsNarrowTo any l.parts l.part-index;
}

abbrev pub decreases-minimal_sets : goal.decreases-minimal_sets
decreases-minimal_sets l = tree_size l.expr.now
