use Rattle.std.proofs.Common.{ap, arith, length}
use Rattle.std.specs.Prelude.{filter}
use Rattle.desk_model.specs.Keys.{below_by}
use Rattle.desk_sorted.specs.Blocks.{rows_in}
use Rattle.desk_sorted.proofs.Counting.{more_found, no_more, none_counted}
use Rattle.desk_sorted.proofs.Walking.{rest_ascends, slice_ascends, slice_found}
use Rattle.desk_sorted.proofs.blocks.Blocks.count_of.Goals as goal

pub loop-block-init : goal.loop-block-init
loop-block-init g c = record {
  found = none_counted _ _ (ap length c.among-block-items.ensures.found);
  ascending = c.among-block-items.ensures.ascending;
}

pub run_in-requires : goal.run_in-requires
run_in-requires g c =
    slice_ascends c.among-block-items.result.now c.loop-block.block-index c.block-item.result
    c.as_slice.ensures.value c.block-item.is (below_by g.R.Keyed.order) c.loop-block-test.true
    c.loop-block.invariant.ascending

pub overflow_add-count : goal.overflow_add-count
overflow_add-count g c =
    let at = g.K.Sought.is_at c.args.key.now in
    let here = slice_found c.among-block-items.result.now c.loop-block.block-index
    c.block-item.result c.as_slice.ensures.value c.block-item.is at c.run_in.ensures in
    let all = length (filter at (rows_in c.args.self.now.blocks.items)) in
    let more = more_found at c.among-block-items.result.now c.loop-block.block-index
    c.block-item.result c.run_in.result.now c.loop-block.count all c.loop-block-test.true here
    c.loop-block.invariant.found in
    let less = no_more at (rows_in c.args.self.now.blocks.items) in
    omega (arith, more, less, c.args.self.now.fits)

pub loop-block-preserved : goal.loop-block-preserved
loop-block-preserved g c =
    let at = g.K.Sought.is_at c.args.key.now in
    let here = slice_found c.among-block-items.result.now c.loop-block.block-index
    c.block-item.result c.as_slice.ensures.value c.block-item.is at c.run_in.ensures in
    let all = length (filter at (rows_in c.args.self.now.blocks.items)) in
    record {
      found = more_found at c.among-block-items.result.now c.loop-block.block-index
          c.block-item.result c.run_in.result.now c.loop-block.count all c.loop-block-test.true here
          c.loop-block.invariant.found;
      ascending = rest_ascends (below_by g.R.Keyed.order) c.among-block-items.result.now
          c.loop-block.block-index c.block-item.result c.loop-block-test.true
          c.loop-block.invariant.ascending;
    }
