use Rattle.std.proofs.Common.{◌-◌, take, drop, subst, ap, ◌∙◌, List}
use Rattle.std.specs.Prelude.{filter, Vec}
use Rattle.std.specs.declared.alloc.Global.{Global}
use Rattle.desk_model.specs.Keys.{below_by}
use Rattle.desk_model.specs.Lists.{ascends}
use Rattle.desk_sorted.specs.Blocks.{rows_in, IsBlockRun}
use Rattle.desk_sorted.proofs.Blocking.{ascends_drop, ascends_take}
use Rattle.desk_sorted.proofs.Searching.{found_in_run}
use Rattle.desk_sorted.proofs.blocks.Blocks.among.Goals as goal

pub returns-clause-found : goal.returns-clause-found
returns-clause-found g c =
    let key = c.args.key.now in
    let at = g.K.Sought.is_at key in
    let side = g.K.Sought.side key in
    let low = c.blocks_of-run.result.start in
    let high = c.blocks_of-run.result.end in
    let run = subst (λ (bs : List (Vec g.row.R.Denot Global)). IsBlockRun side bs low high)
    c.as_slice.ensures.value c.blocks_of-run.ensures in
    ap (λ (bs : List (Vec g.row.R.Denot Global)). filter at
    (rows_in (take (high - low) (drop low bs)))) c.deref.ensures.value
    ∙ found_in_run at side (g.met.K.Sought.meets key) c.args.self.now.blocks.items low high run

pub returns-clause-ascending : goal.returns-clause-ascending
returns-clause-ascending g c =
    let below = below_by g.R.Keyed.order in
    let low = c.blocks_of-run.result.start in
    let high = c.blocks_of-run.result.end in
    ap (λ (bs : List (Vec g.row.R.Denot Global)). ascends below
    (rows_in (take (high - low) (drop low bs)))) c.deref.ensures.value
    ∙ ascends_take below (high - low) (drop low c.args.self.now.blocks.items)
    (ascends_drop below low c.args.self.now.blocks.items c.args.self.now.ascending)
