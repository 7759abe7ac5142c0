use Rattle.std.proofs.Common.{◌≡◌, ◌++◌, List, length, map, Ok}
use Rattle.sqlite.specs.Held.{state}
use Rattle.desk_sql_write.specs.Turning.{Adds, with_rows}
use Rattle.desk_sql_write.proofs.adding.add_in_eights.Given as goal

-- the rows before those that are left were added
abbrev pub invariant-loop-first : goal.invariant-loop-first
invariant-loop-first g l = (added : List _) × record {
  before : l.rows ≡ added ++ l.left;
  same_reference : l.tx.conn.ghost_name ≡ l.fn.tx.conn.ghost_name;
  adds : Adds (with_rows g.R.AddedInEights.tree (map g.R.AddedInEights.cells added)) (length added)
      (state g.S.Store l.fn.tx.conn.now) (state g.S.Store l.tx.conn.now) (Ok tt);
}

abbrev pub decreases-loop-first : goal.decreases-loop-first
decreases-loop-first g l = length l.left
