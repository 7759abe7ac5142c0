use Rattle.std.proofs.Common.{◌≡◌, true, drop}
use Rattle.std.specs.Prelude.{filter}
use Rattle.desk_model.specs.Lists.{ascends}
use Rattle.desk_model.specs.Keys.{below_by, choice_order, is_choice_in}
use Rattle.desk_memory_rows.specs.Holders.{letting_go}
use Rattle.desk_sorted.specs.Blocks.{rows_in}
use Rattle.desk_memory_rows.proofs.choices.drop_holders.Given as goal

abbrev pub invariant-loop-block : goal.invariant-loop-block
invariant-loop-block l = record {
  left : letting_go l.place (filter (is_choice_in l.release)
      (rows_in (drop l.block-index l.block-items))) (rows_in l.holders.blocks.items)
      ≡ letting_go l.place (filter (is_choice_in l.release) (rows_in l.rows.blocks.items))
      (rows_in l.fn.holders.blocks.items);
  ascending : ascends (below_by choice_order) (rows_in (drop l.block-index l.block-items)) ≡ true;
}
