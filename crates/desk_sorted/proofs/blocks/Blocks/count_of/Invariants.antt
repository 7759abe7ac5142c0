use Rattle.std.proofs.Common.{◌≡◌, ◌+◌, true, length, drop}
use Rattle.std.specs.Prelude.{filter}
use Rattle.desk_model.specs.Lists.{ascends}
use Rattle.desk_model.specs.Keys.{below_by}
use Rattle.desk_sorted.specs.Blocks.{rows_in}
use Rattle.desk_sorted.proofs.blocks.Blocks.count_of.Given as goal

abbrev pub invariant-loop-block : goal.invariant-loop-block
invariant-loop-block g l = record {
  found : l.count + length (filter (g.K.Sought.is_at l.key)
      (rows_in (drop l.block-index l.block-items)))
      ≡ length (filter (g.K.Sought.is_at l.key) (rows_in l.self.blocks.items));
  ascending : ascends (below_by g.R.Keyed.order) (rows_in (drop l.block-index l.block-items))
      ≡ true;
}
