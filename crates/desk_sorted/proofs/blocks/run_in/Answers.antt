use Rattle.desk_sorted.proofs.Halving.{run_found}
use Rattle.desk_sorted.proofs.blocks.run_in.Goals as goal

pub returns : goal.returns
returns g c =
    let key = c.args.key.now in
    run_found (g.K.Sought.is_at key) (g.K.Sought.side key) (g.met.K.Sought.meets key)
    c.args.block.now c.run_of-run.result.start c.run_of-run.result.end c.run_of-run.ensures
