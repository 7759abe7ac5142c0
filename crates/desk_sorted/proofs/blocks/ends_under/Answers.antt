use Rattle.std.proofs.Common.{◌∙◌, ap}
use Rattle.std.specs.Ordering.{is_le}
use Rattle.desk_sorted.proofs.Blocking.{ends_at}
use Rattle.desk_sorted.proofs.blocks.ends_under.Goals as goal

pub returns-in-Some : goal.returns-in-Some
returns-in-Some g c =
    c.is_le.ensures ∙ (ap is_le c.compare.ensures
    ∙ ends_at (λ other. is_le (g.R.Keyed.order other c.args.row.now)) c.args.block.now
    c.in-Some.other.now c.in-Some.ensures.value)
