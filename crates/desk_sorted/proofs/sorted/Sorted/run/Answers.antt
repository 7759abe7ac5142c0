use Rattle.std.proofs.Common.{◌-◌, take, drop, ap, subst, ◌∙◌}
use Rattle.desk_sorted.specs.Sorted.{IsRun}
use Rattle.desk_sorted.proofs.Halving.{run_found}
use Rattle.desk_sorted.proofs.sorted.Sorted.run.Goals as goal

pub returns : goal.returns
returns g c =
    let key = c.args.key.now in
    let side = g.K.Sought.side key in
    let low = c.run_of-run.result.start in
    let high = c.run_of-run.result.end in
    let run = subst (λ xs. IsRun side xs low high) c.as_slice.ensures.value c.run_of-run.ensures in
    ap (λ xs. take (high - low) (drop low xs)) c.deref.ensures.value
    ∙ run_found (g.K.Sought.is_at key) side (g.met.K.Sought.meets key) c.args.self.now.rows.items
    low high run
