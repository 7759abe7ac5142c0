use Rattle.std.proofs.Common.{◌≡◌, rules}
use Rattle.std.proofs.lemmas.List.Sorted.{answers_always}
use Rattle.desk_model.specs.Keys.{below_by}
use Rattle.desk_sorted.proofs.Halving.{climbs_by}
use Rattle.desk_sorted.proofs.sorted.climbs.Goals as goal

pub returns : goal.returns
returns g c =
    let below = below_by g.R.Keyed.order in
    climbs_by below c.args.rows.now c.is_sorted_by.result
    (c.is_sorted_by.ensures.cases below
    (answers_always _ (λ a r. r ≡ below a.0.now a.1.0.now) _ (λ f a r f' k. search rules)))
