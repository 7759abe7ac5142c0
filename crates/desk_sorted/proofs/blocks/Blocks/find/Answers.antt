use Rattle.std.proofs.Common.{◌∙◌, ap}
use Rattle.std.specs.Prelude.{slice_get}
use Rattle.desk_base.proofs.Lists.{first_found}
use Rattle.desk_model.specs.Keys.{below_by}
use Rattle.desk_sorted.specs.Blocks.{rows_in}
use Rattle.desk_sorted.proofs.Walking.{find_here, find_later, find_same, rest_ascends, slice_ascends, slice_found}
use Rattle.desk_sorted.proofs.blocks.Blocks.find.Goals as goal

pub loop-block-init : goal.loop-block-init
loop-block-init g c = record {
  found = find_same (g.K.Sought.is_at c.args.key.now) (rows_in c.among-block-items.result.now)
      (rows_in c.args.self.now.blocks.items) c.among-block-items.ensures.found;
  ascending = c.among-block-items.ensures.ascending;
}

pub run_in-requires : goal.run_in-requires
run_in-requires g c =
    slice_ascends c.among-block-items.result.now c.loop-block.block-index c.block-item.result
    c.as_slice.ensures.value c.block-item.is (below_by g.R.Keyed.order) c.loop-block-test.true
    c.loop-block.invariant.ascending

pub returns-in-Some : goal.returns-in-Some
returns-in-Some g c =
    let at = g.K.Sought.is_at c.args.key.now in
    let blocks = c.among-block-items.result.now in
    let here = slice_found blocks c.loop-block.block-index c.block-item.result
    c.as_slice.ensures.value c.block-item.is at c.run_in.ensures in
    find_here at blocks c.loop-block.block-index c.block-item.result c.in-Some.row.now
    c.loop-block-test.true
    (c.in-Some.ensures.value ∙ (ap (λ xs. slice_get xs 0) here ∙ first_found at _))
    ∙ c.loop-block.invariant.found

pub loop-block-preserved : goal.loop-block-preserved
loop-block-preserved g c =
    let at = g.K.Sought.is_at c.args.key.now in
    let blocks = c.among-block-items.result.now in
    let here = slice_found blocks c.loop-block.block-index c.block-item.result
    c.as_slice.ensures.value c.block-item.is at c.run_in.ensures in
    record {
      found =
          find_later at blocks c.loop-block.block-index c.block-item.result c.loop-block-test.true
          (c.in_default.ensures.value ∙ (ap (λ xs. slice_get xs 0) here ∙ first_found at _))
          ∙ c.loop-block.invariant.found;
      ascending = rest_ascends (below_by g.R.Keyed.order) blocks c.loop-block.block-index
          c.block-item.result c.loop-block-test.true c.loop-block.invariant.ascending;
    }
