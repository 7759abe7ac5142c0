use Rattle.std.proofs.Common.{◌<◌, ◌∙◌, arith, length}
use Rattle.std.specs.Prelude.{not}
use Rattle.std.proofs.lemmas.List.{length-set}
use Rattle.desk_model.specs.Keys.{below_by}
use Rattle.desk_sorted.proofs.Walking.{block_ascends, one_cut, rest_after}
use Rattle.desk_sorted.proofs.blocks.cut_each.Goals as goal

pub cut_run-requires : goal.cut_run-requires
cut_run-requires g c =
    let within : c.loop-block.block-index < length c.loop-block.blocks =
    omega (arith, c.loop-block-test.true, c.loop-block.invariant.length) in
    block_ascends (below_by g.R.Keyed.order) c.loop-block.blocks c.loop-block.block-index
    c.block-item.result within c.loop-block.invariant.ascending

pub loop-block-preserved : goal.loop-block-preserved
loop-block-preserved g c =
    let within : c.loop-block.block-index < length c.loop-block.blocks =
    omega (arith, c.loop-block-test.true, c.loop-block.invariant.length) in
    record {
      rows = one_cut (λ row. not (g.K.Sought.is_at c.args.key.now row)) c.loop-block.blocks
          c.loop-block.block-index c.cut_run.new.block c.block-item.result within
          c.cut_run.ensures.items ∙ c.loop-block.invariant.rows;
      ascending = rest_after (below_by g.R.Keyed.order) c.loop-block.blocks c.loop-block.block-index
          c.cut_run.new.block c.block-item.result within c.loop-block.invariant.ascending;
      length = length-set c.loop-block.blocks c.loop-block.block-index c.cut_run.new.block
          ∙ c.loop-block.invariant.length;
    }
