use Rattle.std.proofs.Common.{◌≡◌, ◌++◌, drop}
use Rattle.std.specs.Prelude.{All, IsTrue}
use Rattle.desk_expr.specs.Words.{is_term}
use Rattle.desk_expr.specs.Tree.{parts_of}
use Rattle.desk_expr.specs.Occurring.{leaves_of}
use Rattle.desk_expr.proofs.expr.Expr.+collect_terms.Given as goal

abbrev pub invariant-loop-part : goal.invariant-loop-part
invariant-loop-part l = record {
  added : l.initial.terms.items ++ leaves_of (parts_of l.part-items) ≡ l.terms.items
      ++ leaves_of (parts_of (drop l.part-index l.part-items));
  well_formed : All (λ t. IsTrue (is_term t)) l.initial.terms.items
      → All (λ t. IsTrue (is_term t)) l.terms.items;
}

abbrev pub invariant-loop-part-2 : goal.invariant-loop-part-2
invariant-loop-part-2 l = record {
  added : l.initial.terms.items ++ leaves_of (parts_of l.part-items) ≡ l.terms.items
      ++ leaves_of (parts_of (drop l.part-index l.part-items));
  well_formed : All (λ t. IsTrue (is_term t)) l.initial.terms.items
      → All (λ t. IsTrue (is_term t)) l.terms.items;
}
