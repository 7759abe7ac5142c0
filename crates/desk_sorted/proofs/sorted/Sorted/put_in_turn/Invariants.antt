use Rattle.std.proofs.Common.{◌≡◌, ◌+◌, ◌≤◌, vec_len}
use Rattle.std.specs.Vec.{vec_capacity}
use Rattle.std.specs.Vec.Iter.{into_iter_len}
use Rattle.desk_model.specs.Keys.{below_by}
use Rattle.desk_sorted.specs.Sorted.{put_in_turn}
use Rattle.desk_sorted.proofs.sorted.Sorted.put_in_turn.Given as goal

abbrev pub invariant-loop-row : goal.invariant-loop-row
invariant-loop-row g l = record {
  items : l.self.rows.items ≡ put_in_turn (below_by g.R.Keyed.order) l.yielded l.fn.self.rows.items;
  room : vec_len l.self.rows + into_iter_len l.row-iterator ≤ vec_capacity l.self.rows;
}
