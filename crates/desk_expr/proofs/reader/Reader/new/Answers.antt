use Rattle.desk_expr.proofs.Steps.{start_rest}
use Rattle.desk_expr.proofs.reader.Reader.new.Goals as goal

pub returns : goal.returns
returns c =
    start_rest c.new.result.items c.new-2.result.lists.items c.new-2.result.operands.items
    c.new.ensures.items c.new-2.ensures.lists c.new-2.ensures.operands
