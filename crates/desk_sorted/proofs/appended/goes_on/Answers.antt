use Rattle.std.proofs.Common.{sym, ap, ◌∙◌}
use Rattle.std.specs.Ordering.{is_le}
use Rattle.desk_model.specs.Keys.{below_by}
use Rattle.desk_sorted.proofs.Halving.{turned_le}
use Rattle.desk_sorted.proofs.Placing.{ascends-push}
use Rattle.desk_sorted.proofs.appended.goes_on.Goals as goal
use Rattle.desk_model.proofs.Orders.{order_of}

pub returns-in-Some : goal.returns-in-Some
returns-in-Some g c = λ e up.
    let order = g.R.Keyed.order in
    let last = c.in-Some.last.now in
    let row = c.args.row.now in
    ascends-push (below_by order) (order_of g.met.R.Keyed.total) c.args.rows.now last row
    c.in-Some.ensures.value
    (turned_le (order row last) (order last row) (g.met.R.Keyed.total.antisymm row last)
    (sym (c.is_le.ensures ∙ ap is_le c.compare.ensures) ∙ e))
    up
