use Rattle.std.proofs.Common.{◌≡◌, ◌+◌, ◌-◌, ◌∙◌, ap, arith, length, subst, take}
use Rattle.desk_sorted.specs.Sorted.{IsRun}
use Rattle.desk_sorted.proofs.Halving.{run_cut}
use Rattle.desk_sorted.proofs.Walking.{turned_out}
use Rattle.desk_sorted.proofs.blocks.cut_run.Goals as goal

pub returns-clause-items : goal.returns-clause-items
returns-clause-items g c =
    let key = c.args.key.now in
    let side = g.K.Sought.side key in
    let items = c.args.block.now.items in
    let low = c.run_of-run.result.start in
    let high = c.run_of-run.result.end in
    let left = c.len.result - (high - low) in
    let run = subst (λ xs. IsRun side xs low high) c.as_slice.ensures.value c.run_of-run.ensures in
    let many : left + (high - low) ≡ length items =
    omega (arith, c.len.ensures, c.args.block.now.ok.0, run.ordered, run.within) in
    c.truncate.ensures.items
    ∙ (ap (take left) c.turn_out.ensures.items
    ∙ (turned_out items low high left run.ordered run.within many
    ∙ run_cut (g.K.Sought.is_at key) side (g.met.K.Sought.meets key) items low high run))
