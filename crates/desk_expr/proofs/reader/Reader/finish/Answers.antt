use Rattle.std.proofs.Common.{◌≡◌, ◌↔◌, sym, subst, Result, Ok, Err, inl}
use Rattle.std.specs.Prelude.{IfOk, IfErr, []}
use Rattle.desk_expr.specs.declared.word.Halt.{Halt}
use Rattle.desk_expr.specs.declared.word.Halt.TheVariants.{Unexpected, Unclosed, Memory}
use Rattle.desk_expr.specs.declared.reader.Reader.{Reader}
use Rattle.desk_expr.specs.declared.reader.State.TheVariants.{Word, Done}
use Rattle.desk_expr.specs.declared.term.Term.{Term}
use Rattle.desk_expr.specs.Tree.{Tree, one}
use Rattle.desk_expr.specs.Rest.{Ended}
use Rattle.desk_expr.specs.Reading.{Rest, EndsWith, goal_from}
use Rattle.desk_expr.proofs.Steps.{word_end, word_closings}
use Rattle.desk_expr.proofs.reader.Reader.finish.Goals as goal

-- a word at the end is an operand
tree_of_word : (m : Reader) (t : Term) (res : Result Tree Halt)
    → IfOk res (λ e. (other : Tree)
    → Rest (record m { state = Done (one t) }) [] other ↔ (e ≡ other))
    → IfOk res (λ e. (other : Tree) → Rest (record m { state = Word t }) [] other ↔ (e ≡ other))
tree_of_word m t (Ok e) h =
    λ other.
    let w = word_end (goal_from Ended m.outer.items) m.inner.lists.items m.inner.operands.items t
    other in
    ((λ x. (h other).0 (w.0 x)), (λ x. w.1 ((h other).1 x)))
tree_of_word m t (Err f) h = h

halt_of_word : (m : Reader) (t : Term) (f : Halt) → EndsWith (record m { state = Done (one t) }) f
    → EndsWith (record m { state = Word t }) f
halt_of_word m t Unexpected h =
    λ n e x. h n e (word_closings (goal_from Ended m.outer.items) m.inner.lists.items
    m.inner.operands.items t n e x)
halt_of_word m t Unclosed h = (
  λ e x. h.0 e ((word_end (goal_from Ended m.outer.items) m.inner.lists.items m.inner.operands.items
      t e).0 x),
  h.1,
  h.2,
  inl h.3,
)
halt_of_word m t (Memory p) h = h

err_of_word : (m : Reader) (t : Term) (res : Result Tree Halt)
    → IfErr res (EndsWith (record m { state = Done (one t) }))
    → IfErr res (EndsWith (record m { state = Word t }))
err_of_word m t (Ok e) h = h
err_of_word m t (Err f) h = halt_of_word m t f h

pub returns-in-Word-clause-ok : goal.returns-in-Word-clause-ok
returns-in-Word-clause-ok c =
    let m : Reader = c.args.self in
    subst (λ s. IfOk c.whole.result
    (λ e. (other : Tree) → Rest (record m { state = s }) [] other ↔ (e ≡ other))) (sym c.in-Word.is)
    (tree_of_word m c.in-Word.leaf c.whole.result
    (subst (λ o. IfOk c.whole.result
    (λ e. (other : Tree) → Rest (record m { state = Done o }) [] other ↔ (e ≡ other))) c.one.ensures
    c.whole.ensures.ok))

pub returns-in-Word-clause-err : goal.returns-in-Word-clause-err
returns-in-Word-clause-err c =
    let m : Reader = c.args.self in
    subst (λ s. IfErr c.whole.result (EndsWith (record m { state = s }))) (sym c.in-Word.is)
    (err_of_word m c.in-Word.leaf c.whole.result
    (subst (λ o. IfErr c.whole.result (EndsWith (record m { state = Done o }))) c.one.ensures
    c.whole.ensures.err))

pub returns-in-Done-clause-err : goal.returns-in-Done-clause-err
returns-in-Done-clause-err c =
    subst (λ s. IfErr c.whole-in-Done.result (EndsWith (record c.args.self { state = s })))
    (sym c.in-Done.is) c.whole-in-Done.ensures.err
