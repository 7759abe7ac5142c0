use Rattle.desk_sorted.proofs.Ascending.{rises_along}
use Rattle.desk_sorted.proofs.Nearby.{run_from}
use Rattle.desk_sorted.proofs.sorted.run_near.Goals as goal

pub returns-then-begins_at : goal.returns-then-begins_at
returns-then-begins_at g c =
    let side = g.K.Sought.side c.args.key.now in
    let up = rises_along g.R.Keyed.order side (g.met.K.Sought.splits c.args.key.now) c.args.rows.now
    c.requires in
    run_from side c.args.rows.now c.args.place c.end_from-end.result up
    (c.begins_at.ensures c.if-begins_at.true) c.end_from-end.ensures
