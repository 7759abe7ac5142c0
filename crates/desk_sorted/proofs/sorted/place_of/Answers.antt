use Rattle.std.proofs.Common.{rules}
use Rattle.std.specs.Ordering.{is_le}
use Rattle.std.proofs.lemmas.List.Sorted.{IsPartitionPoint-from_clause}
use Rattle.desk_sorted.specs.Sides.{side_by}
use Rattle.desk_sorted.proofs.Ascending.{rises_along}
use Rattle.desk_sorted.proofs.Halving.{partitioned_le, is_place}
use Rattle.desk_sorted.proofs.sorted.place_of.Goals as goal

pub returns : goal.returns
returns g c =
    let order = g.R.Keyed.order in
    let row = c.args.row.now in
    let rows = c.args.rows.now in
    let up = rises_along order (λ y. order y row)
    (side_by order (λ x. x) order g.met.R.Keyed.total (λ x y e. e) row) rows c.requires in
    is_place g.met.R.Keyed.total row rows c.partition_point.result c.partition_point.ensures.bound
    (IsPartitionPoint-from_clause (λ y. is_le (order y row)) rows c.partition_point.result
    c.partition_point.ensures.partitioned (partitioned_le (λ y. order y row) rows up)
    (λ a r f' k. search rules))
