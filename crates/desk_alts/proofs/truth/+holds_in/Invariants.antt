use Rattle.std.proofs.Common.{◌↔◌, drop}
use Rattle.std.specs.Prelude.{Contains}
use Rattle.desk_expr.specs.Tree.{parts_of, tree_size}
use Rattle.desk_expr.specs.Meaning.{AllHold, SomeHolds}
use Rattle.desk_alts.proofs.truth.+holds_in.Given as goal

-- all parts hold if those from the index on do
abbrev pub invariant-loop-part : goal.invariant-loop-part
invariant-loop-part l =
    AllHold (Contains l.listed.chosen.now) (parts_of l.parts)
    ↔ AllHold (Contains l.listed.chosen.now) (parts_of (drop l.part-index l.parts))

abbrev pub invariant-loop-part-2 : goal.invariant-loop-part-2
invariant-loop-part-2 l =
    SomeHolds (Contains l.listed.chosen.now) (parts_of l.parts)
    ↔ SomeHolds (Contains l.listed.chosen.now) (parts_of (drop l.part-index l.parts))

abbrev pub decreases-holds_in : goal.decreases-holds_in
decreases-holds_in l = tree_size l.expr.now
