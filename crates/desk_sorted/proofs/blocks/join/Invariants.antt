use Rattle.std.proofs.Common.{◌≡◌, ◌<◌, true, vec_len}
use Rattle.desk_sorted.specs.Blocks.{are_filled, rows_in}
use Rattle.desk_sorted.proofs.blocks.join.Given as goal

abbrev pub invariant-loop-blocks : goal.invariant-loop-blocks
invariant-loop-blocks g l = record {
  rows : rows_in l.blocks.items ≡ rows_in l.fn.blocks.items;
  filled : are_filled l.blocks.items ≡ true;
  some : 0 < vec_len l.blocks;
}

abbrev pub decreases-loop-blocks : goal.decreases-loop-blocks
decreases-loop-blocks g l = vec_len l.blocks
