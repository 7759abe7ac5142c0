use Rattle.std.proofs.Common.{◌≡◌, ◌++◌, take, drop, sym, subst, ◌∙◌}
use Rattle.desk_model.specs.Lists.{put_all}
use Rattle.desk_model.specs.Keys.{below_by}
use Rattle.desk_sorted.proofs.sorted.put_rows.Goals as goal

pub returns-in-Some : goal.returns-in-Some
returns-in-Some g c =
    let below = below_by g.R.Keyed.order in
    let more = c.args.more.items in
    let n = c.in-Some.place in
    c.insert_all.ensures
    ∙ sym (subst (λ xs. put_all below more xs ≡ take n xs ++ (more ++ drop n xs))
    c.as_slice.ensures.value
    (subst (λ ys. put_all below ys c.as_slice.result.now ≡ take n c.as_slice.result.now
    ++ (ys ++ drop n c.as_slice.result.now)) c.as_slice-2.ensures.value c.in-Some.ensures.place))
