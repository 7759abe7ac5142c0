use Rattle.std.proofs.Common.{◌≡◌, ◌+◌, ◌≤◌, true, vec_len}
use Rattle.std.specs.Vec.{vec_capacity}
use Rattle.desk_model.specs.Lists.{ascends, put_all}
use Rattle.desk_model.specs.Keys.{below_by}
use Rattle.desk_sorted.proofs.sorted.put_each.Given as goal

abbrev pub invariant-loop-row : goal.invariant-loop-row
invariant-loop-row g l = record {
  ascending : ascends (below_by g.R.Keyed.order) l.rows.items ≡ true;
  room : vec_len l.rows + vec_len l.more ≤ vec_capacity l.rows;
  put : put_all (below_by g.R.Keyed.order) l.more.items l.rows.items
      ≡ put_all (below_by g.R.Keyed.order) l.fn.more.items l.fn.rows.items;
}

abbrev pub decreases-loop-row : goal.decreases-loop-row
decreases-loop-row g l = vec_len l.more
