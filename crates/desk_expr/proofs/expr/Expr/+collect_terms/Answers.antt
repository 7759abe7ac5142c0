use Rattle.std.proofs.Common.{◌≡◌, ◌∙◌, ◌++◌, ◌+◌, ◌<◌, ℕ, List, length, drop, get_or, append_assoc}
use Rattle.std.proofs.Common.{ap, rules, sym, subst, arith}
use Rattle.std.proofs.lemmas.List.{drop_more}
use Rattle.desk_expr.specs.Tree.{Tree, parts_of}
use Rattle.desk_expr.specs.Occurring.{leaves, leaves_of}
use Rattle.std.specs.Prelude.{All, IsTrue}
use Rattle.std.proofs.lemmas.List.Elements.{All-push}
use Rattle.desk_expr.specs.declared.term.Term.{Term}
use Rattle.desk_expr.specs.Words.{is_term}
use Rattle.desk_expr.proofs.expr.Expr.+collect_terms.Goals as goal

-- the terms of one more part
one_more : (before now then : List Term) (parts : List Tree) (i : ℕ) (d : Tree) → i < length parts
    → before ++ leaves_of (parts_of parts) ≡ now ++ leaves_of (parts_of (drop i parts))
    → then ≡ now ++ leaves (get_or parts i d)
    → before ++ leaves_of (parts_of parts) ≡ then ++ leaves_of (parts_of (drop (i + 1) parts))
one_more before now then parts i d inside so_far is =
    so_far ∙ (ap (λ l. now ++ leaves_of (parts_of l)) (drop_more parts i d inside)
    ∙ (sym (append_assoc now (leaves (get_or parts i d))
    (leaves_of (parts_of (drop (i + 1) parts))))
    ∙ ap (λ l. l ++ leaves_of (parts_of (drop (i + 1) parts))) (sym is)))

pub loop-part-preserved : goal.loop-part-preserved
loop-part-preserved t c = record {
  added = one_more c.args.terms.now.items c.loop-part.terms.items c.collect_terms.new.terms.items
      c.deref-part-items.result.now c.loop-part.part-index c.part-item.result (omega arith)
      c.loop-part.invariant.added
      (c.in_ok-collect_terms-in-All.ensures.added
      ∙ ap (λ e. c.loop-part.terms.items ++ leaves e) c.part-item.is);
  well_formed = λ old. c.in_ok-collect_terms-in-All.ensures.well_formed
      (c.loop-part.invariant.well_formed old);
}

pub loop-part-2-preserved : goal.loop-part-2-preserved
loop-part-2-preserved t c = record {
  added = one_more c.args.terms.now.items c.loop-part-2.terms.items
      c.collect_terms-in-loop-part-2.new.terms.items c.deref-part-items-in-Any.result.now
      c.loop-part-2.part-index c.part-item-in-loop-part-2.result (omega arith)
      c.loop-part-2.invariant.added
      (c.in_ok-collect_terms-in-Any.ensures.added
      ∙ ap (λ e. c.loop-part-2.terms.items ++ leaves e) c.part-item-in-loop-part-2.is);
  well_formed = λ old. c.in_ok-collect_terms-in-Any.ensures.well_formed
      (c.loop-part-2.invariant.well_formed old);
}

pub returns-in_ok-push-in-One-clause-well_formed : goal.returns-in_ok-push-in-One-clause-well_formed
returns-in_ok-push-in-One-clause-well_formed t c = λ old.
    let copy : c.in_ok-clone-in-One.field-0 ≡ c.term.result.now = search rules in
    let formed : IsTrue (is_term c.in_ok-clone-in-One.field-0) =
    subst (λ (x : Term). IsTrue (is_term x)) (sym (copy ∙ c.term.ensures.term))
    c.term.ensures.well_formed in
    subst (All (λ (x : Term). IsTrue (is_term x))) (sym c.in_ok-push-in-One.ensures.items)
    (All-push (λ (x : Term). IsTrue (is_term x)) c.args.terms.now.items c.in_ok-clone-in-One.field-0
    old formed)
