use Rattle.std.proofs.Common.{ap, subst, Result, Ok, Err}
use Rattle.std.specs.Prelude.{IfOk, IfErr, ◌≢◌}
use Rattle.desk_expr.specs.declared.word.Halt.{Halt}
use Rattle.desk_expr.specs.declared.word.Halt.TheVariants.{Unexpected, Unclosed, Memory}
use Rattle.desk_expr.specs.declared.reader.Reader.{Reader}
use Rattle.desk_expr.specs.declared.reader.State.TheVariants.{Word, Done}
use Rattle.desk_expr.specs.declared.term.Term.{Term}
use Rattle.desk_expr.specs.Tree.{one}
use Rattle.desk_expr.specs.Grammar.{Symbol, with_word}
use Rattle.desk_expr.specs.Spelling.{symbol}
use Rattle.desk_expr.specs.Reading.{Steps, Stops}
use Rattle.desk_expr.proofs.SymbolLemmas.{is_with}
use Rattle.desk_expr.proofs.Steps.{word_with, word_not_with}
use Rattle.desk_expr.proofs.reader.word.Goals as goal

pub returns-in-With-clause-ok : goal.returns-in-With-clause-ok
returns-in-With-clause-ok c =
    word_with c.args.outer.items c.args.inner.lists.items c.args.inner.operands.items c.args.leaf
    (symbol c.args.token.now.kind c.args.token.now.text.now)
    (ap (λ k. symbol k c.args.token.now.text.now) c.in-With.is)

-- a word that isn't followed by WITH is an operand
steps_as_operand : (m : Reader) (t : Term) (s : Symbol) → s ≢ with_word → (res : Result Reader Halt)
    → IfOk res (λ n. Steps (record m { state = Done (one t) }) s n)
    → IfOk res (λ n. Steps (record m { state = Word t }) s n)
steps_as_operand m t s not_with (Ok n) h =
    λ r e.
    let w = word_not_with m.outer.items m.inner.lists.items m.inner.operands.items t s not_with r
    e in
    ((λ x. (h r e).0 (w.0 x)), (λ x. w.1 ((h r e).1 x)))
steps_as_operand m t s not_with (Err f) h = h

stops_as_operand : (m : Reader) (t : Term) (s : Symbol) → s ≢ with_word → (h : Halt)
    → Stops (record m { state = Done (one t) }) s h → Stops (record m { state = Word t }) s h
stops_as_operand m t s not_with Unexpected h =
    λ r e x. h r e ((word_not_with m.outer.items m.inner.lists.items m.inner.operands.items t s
    not_with r e).0 x)
stops_as_operand m t s not_with Unclosed h = h
stops_as_operand m t s not_with (Memory p) h = h

err_as_operand : (m : Reader) (t : Term) (s : Symbol) → s ≢ with_word → (res : Result Reader Halt)
    → IfErr res (Stops (record m { state = Done (one t) }) s)
    → IfErr res (Stops (record m { state = Word t }) s)
err_as_operand m t s not_with (Ok n) h = h
err_as_operand m t s not_with (Err f) h = stops_as_operand m t s not_with f h

pub returns-in_default : goal.returns-in_default
returns-in_default c =
    let m : Reader = record {
      outer = c.args.outer;
      inner = c.args.inner;
      state = Word c.args.leaf;
    } in
    let s : Symbol = symbol c.args.token.now.kind c.args.token.now.text.now in
    let not_with : s ≢ with_word =
    λ h. c.in_default.not-With (is_with c.args.token.now.kind c.args.token.now.text.now h) in
    record {
      ok = steps_as_operand m c.args.leaf s not_with c.after.result
          (subst (λ o. IfOk c.after.result (λ n. Steps (record m { state = Done o }) s n))
          c.one.ensures c.after.ensures.ok);
      err = err_as_operand m c.args.leaf s not_with c.after.result
          (subst (λ o. IfErr c.after.result (Stops (record m { state = Done o }) s)) c.one.ensures
          c.after.ensures.err);
    }
