use Rattle.std.proofs.Common.{sym, subst, ◌∙◌}
use Rattle.desk_model.specs.Keys.{below_by}
use Rattle.desk_sorted.specs.Sorted.{IsPlace}
use Rattle.desk_sorted.proofs.Halving.{put_at}
use Rattle.desk_sorted.proofs.sorted.put_row.Goals as goal

pub returns-clause-items : goal.returns-clause-items
returns-clause-items g c =
    let below = below_by g.R.Keyed.order in
    let items = c.args.rows.now.items in
    let n = c.place_of-place.result in
    let place = subst (λ xs. IsPlace below c.args.row xs n) c.as_slice.ensures.value
    c.place_of-place.ensures in
    c.in-Ok.ensures.items ∙ sym (put_at below c.args.row items n place)
