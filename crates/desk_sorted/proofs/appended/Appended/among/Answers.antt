use Rattle.std.proofs.Common.{◌-◌, take, drop, ap, subst, ◌∙◌}
use Rattle.std.specs.Prelude.{filter}
use Rattle.desk_sorted.specs.Sorted.{IsRun}
use Rattle.desk_sorted.proofs.Halving.{run_found}
use Rattle.desk_sorted.proofs.Placing.{within}
use Rattle.desk_sorted.proofs.appended.Appended.among.Goals as goal

pub returns : goal.returns
returns g c =
    let key = c.args.key.now in
    let side = g.K.Sought.side key in
    let at = g.K.Sought.is_at key in
    let items = c.args.self.now.rows.items in
    let low = c.run_of-run.result.start in
    let high = c.run_of-run.result.end in
    let run = subst (λ xs. IsRun side xs low high) c.as_slice-2.ensures.value
    c.run_of-run.ensures in
    ap (λ xs. filter at (take (high - low) (drop low xs))) c.deref.ensures.value
    ∙ (ap (filter at) (run_found at side (g.met.K.Sought.meets key) items low high run)
    ∙ within at at (λ x e. e) items)
