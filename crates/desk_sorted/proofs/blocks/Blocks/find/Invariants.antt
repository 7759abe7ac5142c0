use Rattle.std.proofs.Common.{◌≡◌, true, drop}
use Rattle.std.specs.Prelude.{find}
use Rattle.desk_model.specs.Lists.{ascends}
use Rattle.desk_model.specs.Keys.{below_by}
use Rattle.desk_sorted.specs.Blocks.{rows_in}
use Rattle.desk_sorted.proofs.blocks.Blocks.find.Given as goal

abbrev pub invariant-loop-block : goal.invariant-loop-block
invariant-loop-block g l = record {
  found : find (g.K.Sought.is_at l.key) (rows_in (drop l.block-index l.block-items))
      ≡ find (g.K.Sought.is_at l.key) (rows_in l.self.blocks.items);
  ascending : ascends (below_by g.R.Keyed.order) (rows_in (drop l.block-index l.block-items))
      ≡ true;
}
