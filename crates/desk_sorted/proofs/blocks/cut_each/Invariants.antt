use Rattle.std.proofs.Common.{◌≡◌, ◌++◌, true, length, take, drop}
use Rattle.std.specs.Prelude.{filter, not}
use Rattle.desk_model.specs.Lists.{ascends}
use Rattle.desk_model.specs.Keys.{below_by}
use Rattle.desk_sorted.specs.Blocks.{rows_in}
use Rattle.desk_sorted.proofs.blocks.cut_each.Given as goal

abbrev pub invariant-loop-block : goal.invariant-loop-block
invariant-loop-block g l = record {
  rows : rows_in (take l.block-index l.blocks)
      ++ filter (λ row. not (g.K.Sought.is_at l.key row)) (rows_in (drop l.block-index l.blocks))
      ≡ filter (λ row. not (g.K.Sought.is_at l.key row)) (rows_in l.fn.blocks);
  ascending : ascends (below_by g.R.Keyed.order) (rows_in (drop l.block-index l.blocks)) ≡ true;
  length : length l.blocks ≡ length l.fn.blocks;
}
