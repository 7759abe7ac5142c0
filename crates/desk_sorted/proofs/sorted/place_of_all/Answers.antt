use Rattle.std.proofs.Common.{subst}
use Rattle.desk_model.specs.Keys.{below_by}
use Rattle.desk_sorted.specs.Sorted.{IsPlace}
use Rattle.desk_sorted.proofs.Halving.{block_of}
use Rattle.desk_sorted.proofs.sorted.place_of_all.Goals as goal
use Rattle.desk_model.proofs.Orders.{order_of}

pub returns-then-place_of-place-clause-place : goal.returns-then-place_of-place-clause-place
returns-then-place_of-place-clause-place g c =
    let below = below_by g.R.Keyed.order in
    let rows = c.args.rows.now in
    let found = c.in-Some-Some in
    block_of below (order_of g.met.R.Keyed.total) found.first.now found.last.now c.args.more.now
    rows c.place_of-place.result found.ensures.value found.ensures'.value
    (c.climbs.ensures c.if-climbs.true)
    c.place_of-place.ensures
    (subst (λ n. IsPlace below found.last.now rows n) c.if-place_of-place.true c.place_of.ensures)
