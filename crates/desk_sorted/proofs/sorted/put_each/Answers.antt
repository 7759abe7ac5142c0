use Rattle.std.proofs.Common.{◌∙◌, ap, sym, arith}
use Rattle.desk_model.specs.Lists.{ascends, put_all}
use Rattle.desk_model.specs.Keys.{below_by}
use Rattle.desk_model.proofs.Orders.{ascends-put, order_of}
use Rattle.desk_sorted.proofs.PutAll.{put_all-push}
use Rattle.desk_sorted.proofs.sorted.put_each.Goals as goal

pub loop-row-preserved : goal.loop-row-preserved
loop-row-preserved g c =
    let below = below_by g.R.Keyed.order in
    record {
      ascending = ap (ascends below) c.put_row.ensures.items
          ∙ ascends-put below (order_of g.met.R.Keyed.total) c.in-Some.row c.loop-row.rows.items
          c.loop-row.invariant.ascending;
      room = omega (
        arith,
        c.in-Some.ensures.cases,
        c.put_row.ensures.len,
        c.put_row.ensures.capacity,
        c.loop-row.invariant.room,
      );
      put =
          ap (put_all below c.pop.new.self.items) c.put_row.ensures.items
          ∙ (sym (put_all-push below c.pop.new.self.items c.in-Some.row c.loop-row.rows.items)
          ∙ (ap (λ xs. put_all below xs c.loop-row.rows.items) (sym c.in-Some.ensures.items)
          ∙ c.loop-row.invariant.put));
    }
