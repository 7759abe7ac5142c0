use Rattle.desk_expr.specs.Spelling.{symbol}
use Rattle.desk_expr.proofs.Steps.{exception_word}
use Rattle.desk_expr.proofs.reader.exception.Goals as goal

pub returns-clause-ok : goal.returns-clause-ok
returns-clause-ok c =
    rw c.one.ensures (exception_word c.args.outer.items c.args.inner.lists.items
    c.args.inner.operands.items c.args.leaf (symbol c.args.token.now.kind c.args.token.now.text.now)
    c.in_ok-key.ensures.ok.0 c.in_ok-key.key c.in_ok-key.ensures.ok.1 c.with_exception.result
    c.with_exception.ensures)
