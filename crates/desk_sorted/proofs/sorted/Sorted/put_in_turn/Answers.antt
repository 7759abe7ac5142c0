use Rattle.std.proofs.Common.{rules, sym, ap, ◌∙◌}
use Rattle.desk_model.specs.Lists.{put}
use Rattle.desk_model.specs.Keys.{below_by}
use Rattle.desk_sorted.proofs.PutAll.{put_in_turn-push}
use Rattle.desk_sorted.proofs.sorted.Sorted.put_in_turn.Goals as goal

pub loop-row-preserved : goal.loop-row-preserved
loop-row-preserved g c =
    let below = below_by g.R.Keyed.order in
    record {
      items = c.put.ensures.items ∙ (ap (put below c.in-Some.row) c.loop-row.invariant.items
          ∙ sym (put_in_turn-push below c.loop-row.yielded c.in-Some.row
          c.args.self.now.rows.items));
      room = search rules;
    }
