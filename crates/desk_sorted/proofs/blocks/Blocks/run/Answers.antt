use Rattle.std.proofs.Common.{◌++◌, ◌∙◌, ap, map}
use Rattle.desk_model.specs.Keys.{below_by}
use Rattle.desk_sorted.proofs.Walking.{more_found, rest_ascends, slice_ascends, slice_found}
use Rattle.desk_sorted.proofs.blocks.Blocks.run.Goals as goal

pub run_in-requires : goal.run_in-requires
run_in-requires g c =
    slice_ascends c.among-block-items.result.now c.loop-block.block-index c.block-item.result
    c.as_slice.ensures.value c.block-item.is (below_by g.R.Keyed.order) c.loop-block-test.true
    c.loop-block.invariant.ascending

pub loop-block-preserved : goal.loop-block-preserved
loop-block-preserved g c =
    let at = g.K.Sought.is_at c.args.key.now in
    record {
      found =
          more_found at c.among-block-items.result.now c.loop-block.block-index c.block-item.result
          (map (λ row. row.now) c.loop-block.found.items)
          (map (λ row. row.now) c.add_each.new.found.items) c.loop-block-test.true
          (c.in_ok-add_each.ensures ∙ ap (λ xs. map (λ row. row.now) c.loop-block.found.items ++ xs)
          (slice_found c.among-block-items.result.now c.loop-block.block-index
          c.block-item.result c.as_slice.ensures.value c.block-item.is at c.run_in.ensures))
          ∙ c.loop-block.invariant.found;
      ascending = rest_ascends (below_by g.R.Keyed.order) c.among-block-items.result.now
          c.loop-block.block-index c.block-item.result c.loop-block-test.true
          c.loop-block.invariant.ascending;
    }
