use Rattle.std.proofs.Common.{ap, subst, ◌∙◌}
use Rattle.std.specs.Prelude.{filter}
use Rattle.desk_sorted.specs.Sorted.{IsRun}
use Rattle.desk_sorted.proofs.Halving.{run_found}
use Rattle.desk_sorted.proofs.Placing.{within}
use Rattle.desk_sorted.proofs.appended.Appended.run_near.Goals as goal

pub returns-then-self-clause-found : goal.returns-then-self-clause-found
returns-then-self-clause-found g c =
    let key = c.args.key.now in
    let side = g.K.Sought.side key in
    let at = g.K.Sought.is_at key in
    let items = c.args.self.now.rows.items in
    let low = c.run_near.result.start in
    let high = c.run_near.result.end in
    let run = subst (λ xs. IsRun side xs low high) c.as_slice.ensures.value c.run_near.ensures in
    ap (filter at) (run_found at side (g.met.K.Sought.meets key) items low high run)
    ∙ within at at (λ x e. e) items
