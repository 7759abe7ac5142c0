use Rattle.std.proofs.Common.{rules}
use Rattle.std.specs.Ordering.{is_lt, is_le}
use Rattle.std.proofs.lemmas.List.Sorted.{IsPartitionPoint-from_clause}
use Rattle.desk_sorted.proofs.Ascending.{rises_along}
use Rattle.desk_sorted.proofs.Halving.{partitioned_lt, partitioned_le, is_run}
use Rattle.desk_sorted.proofs.sorted.run_of.Goals as goal

pub returns : goal.returns
returns g c =
    let side = g.K.Sought.side c.args.key.now in
    let rows = c.args.rows.now in
    let up = rises_along g.R.Keyed.order side (g.met.K.Sought.splits c.args.key.now) rows
    c.requires in
    is_run side rows c.partition_point.result c.partition_point-2.result
    c.partition_point.ensures.bound c.partition_point-2.ensures.bound
    (IsPartitionPoint-from_clause (λ x. is_lt (side x)) rows c.partition_point.result
    c.partition_point.ensures.partitioned (partitioned_lt side rows up) (λ a r f' k. search rules))
    (IsPartitionPoint-from_clause (λ x. is_le (side x)) rows c.partition_point-2.result
    c.partition_point-2.ensures.partitioned (partitioned_le side rows up)
    (λ a r f' k. search rules))
