use Rattle.std.proofs.Common.{◌≡◌, ◌++◌, drop, codes}
use Rattle.std.specs.String.{string_bytes}
use Rattle.desk_expr.specs.declared.printing.Place.TheVariants.{InAll, InAny}
use Rattle.desk_expr.specs.Tree.{parts_of}
use Rattle.desk_expr.specs.Printing.{joined_on, AreWellFormed}
use Rattle.desk_expr.proofs.expr.Expr.+add_to.Given as goal

abbrev pub invariant-loop-part : goal.invariant-loop-part
invariant-loop-part l = record {
  text : string_bytes l.initial.text ++ joined_on InAll (codes " AND ") (parts_of l.others)
      ≡ string_bytes l.text ++ joined_on InAll (codes " AND ")
      (parts_of (drop l.part-index l.others));
  well_formed : AreWellFormed (parts_of (drop l.part-index l.others))
      → AreWellFormed (parts_of l.others);
}

abbrev pub invariant-loop-part-2 : goal.invariant-loop-part-2
invariant-loop-part-2 l = record {
  text : string_bytes l.initial.text ++ joined_on InAny (codes " OR ") (parts_of l.others)
      ≡ string_bytes l.text ++ joined_on InAny (codes " OR ")
      (parts_of (drop l.part-index l.others));
  well_formed : AreWellFormed (parts_of (drop l.part-index l.others))
      → AreWellFormed (parts_of l.others);
}
