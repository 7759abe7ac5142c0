use Rattle.std.proofs.Common.{◌∙◌, ap}
use Rattle.std.specs.Ordering.{is_lt}
use Rattle.desk_sorted.proofs.Blocking.{ends_at}
use Rattle.desk_sorted.proofs.blocks.ends_before.Goals as goal

pub returns-in-Some : goal.returns-in-Some
returns-in-Some g c =
    c.is_lt.ensures ∙ (ap is_lt c.side_of.ensures
    ∙ ends_at (λ row. is_lt (g.K.Sought.side c.args.key.now row)) c.args.block.now c.in-Some.row.now
    c.in-Some.ensures.value)
