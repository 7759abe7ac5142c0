use Rattle.desk_expr.proofs.Steps.{end_open, after_completes}
use Rattle.desk_expr.proofs.reader.whole.Goals as goal

pub returns-in-Some-clause-err : goal.returns-in-Some-clause-err
returns-in-Some-clause-err c =
    let done = after_completes c.args.outer.items c.args.inner.lists.items
    c.args.inner.operands.items c.args.operand in (
      end_open c.args.outer.items c.pop.new.self.items c.in-Some.field-0 c.in-Some.ensures.items
          c.args.inner.lists.items c.args.inner.operands.items c.args.operand,
      done.0,
      done.1,
      done.2,
    )
