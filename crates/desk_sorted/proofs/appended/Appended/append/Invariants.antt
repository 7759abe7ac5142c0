use Rattle.std.proofs.Common.{◌≡◌, ◌+◌, ◌++◌, ◌≤◌, vec_len}
use Rattle.std.specs.Vec.{vec_capacity}
use Rattle.std.specs.Vec.Iter.{into_iter_len}
use Rattle.desk_sorted.proofs.appended.Appended.append.Given as goal

abbrev pub invariant-loop-row : goal.invariant-loop-row
invariant-loop-row g l = record {
  items : l.self.rows.items ≡ l.fn.self.rows.items ++ l.yielded;
  room : vec_len l.self.rows + into_iter_len l.row-iterator ≤ vec_capacity l.self.rows;
}
