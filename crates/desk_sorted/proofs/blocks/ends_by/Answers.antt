use Rattle.std.proofs.Common.{◌∙◌, ap}
use Rattle.std.specs.Ordering.{is_le}
use Rattle.desk_sorted.proofs.Blocking.{ends_at}
use Rattle.desk_sorted.proofs.blocks.ends_by.Goals as goal

pub returns-in-Some : goal.returns-in-Some
returns-in-Some g c =
    c.is_le.ensures ∙ (ap is_le c.side_of.ensures
    ∙ ends_at (λ row. is_le (g.K.Sought.side c.args.key.now row)) c.args.block.now c.in-Some.row.now
    c.in-Some.ensures.value)
