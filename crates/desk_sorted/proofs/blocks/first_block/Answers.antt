use Rattle.std.proofs.Common.{rules}
use Rattle.std.specs.Ordering.{is_lt}
use Rattle.desk_model.specs.Keys.{below_by}
use Rattle.desk_sorted.proofs.Halving.{lt_by}
use Rattle.desk_sorted.proofs.Blocking.{is_parted}
use Rattle.desk_sorted.proofs.blocks.first_block.Goals as goal

pub returns : goal.returns
returns g c =
    let side = g.K.Sought.side c.args.key.now in
    is_parted (below_by g.R.Keyed.order) (λ row. is_lt (side row))
    (λ x y no e. lt_by (side x) (side y) (g.met.K.Sought.splits c.args.key.now x y no) e)
    c.args.blocks.now c.partition_point.result c.partition_point.ensures.bound
    c.requires.ascending c.requires.filled c.partition_point.ensures.partitioned
    (λ a r f' k. search rules)
