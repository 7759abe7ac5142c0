use Rattle.std.proofs.Common.{ap, ◌∙◌}
use Rattle.desk_model.specs.Keys.{below_by}
use Rattle.desk_model.specs.Lists.{ascends}
use Rattle.desk_model.proofs.Orders.{ascends-put, order_of}
use Rattle.desk_sorted.proofs.sorted.Sorted.put.Goals as goal

pub invariant_of-self : goal.invariant_of-self
invariant_of-self g c =
    let below = below_by g.R.Keyed.order in
    record {
      ascending = ap (ascends below) c.put_row.ensures.items
          ∙ ascends-put below (order_of g.met.R.Keyed.total) c.args.row c.args.self.now.rows.items
          c.args.self.now.ascending;
    }
