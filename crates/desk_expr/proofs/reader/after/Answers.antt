use Rattle.std.proofs.Common.{ap}
use Rattle.desk_expr.specs.Spelling.{symbol}
use Rattle.desk_expr.proofs.SymbolLemmas.{is_and, is_or, is_closing}
use Rattle.desk_expr.proofs.Steps.{step_and, step_or, step_closing, step_other}
use Rattle.desk_expr.proofs.reader.after.Goals as goal

pub returns-in_ok-push-in-And-clause-ok : goal.returns-in_ok-push-in-And-clause-ok
returns-in_ok-push-in-And-clause-ok c =
    step_and c.args.outer.items c.args.inner.lists.items c.args.inner.operands.items c.args.operand
    (symbol c.args.token.now.kind c.args.token.now.text.now)
    (ap (λ k. symbol k c.args.token.now.text.now) c.in-And.is)
    c.push.new.list.items c.in_ok-push-in-And.ensures.ok

pub returns-in_ok-push-in-Or-clause-ok : goal.returns-in_ok-push-in-Or-clause-ok
returns-in_ok-push-in-Or-clause-ok c =
    step_or c.args.outer.items c.args.inner.lists.items c.args.inner.operands.items c.args.operand
    (symbol c.args.token.now.kind c.args.token.now.text.now)
    (ap (λ k. symbol k c.args.token.now.text.now) c.in-Or.is)
    c.in_ok-list-in-Or.list c.push-in-Or.new.list.items c.new.result.items
    c.in_ok-list-in-Or.ensures.ok c.in_ok-push-in-Or.ensures.ok c.new.ensures.items

pub returns-in_ok-whole-in-Some-clause-ok : goal.returns-in_ok-whole-in-Some-clause-ok
returns-in_ok-whole-in-Some-clause-ok c =
    step_closing c.args.outer.items c.args.inner.lists.items c.args.inner.operands.items
    c.args.operand (symbol c.args.token.now.kind c.args.token.now.text.now)
    (ap (λ k. symbol k c.args.token.now.text.now) c.in-Closing.is)
    c.pop.new.self.items c.in-Some.around c.in_ok-whole-in-Some.whole c.in-Some.ensures.items
    c.in_ok-whole-in-Some.ensures.ok

pub returns-in_default : goal.returns-in_default
returns-in_default c = record {
  ok = tt;
  err = step_other c.args.outer.items c.args.inner.lists.items c.args.inner.operands.items
      c.args.operand (symbol c.args.token.now.kind c.args.token.now.text.now)
      (λ h. c.in_default.not-And (is_and _ _ h)) (λ h. c.in_default.not-Or (is_or _ _ h))
      (λ h. c.in_default.not-Closing (is_closing _ _ h));
}
