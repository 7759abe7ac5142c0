use Rattle.std.proofs.Common.{◌≡◌, take, length, flat_map, Ok}
use Rattle.sqlite.specs.Held.{state}
use Rattle.desk_sql_write.specs.Turning.{Adds, with_rows}
use Rattle.desk_sql_write.proofs.adding.add_all.Given as goal

-- the rows so far were added
abbrev pub invariant-loop-row : goal.invariant-loop-row
invariant-loop-row g l = record {
  same_reference : l.tx.conn.ghost_name ≡ l.fn.tx.conn.ghost_name;
  adds : Adds (with_rows g.R.Added.tree (flat_map g.R.Added.rows (take l.row-index l.rows)))
      (length (take l.row-index l.rows)) (state g.S.Store l.fn.tx.conn.now)
      (state g.S.Store l.tx.conn.now) (Ok tt);
}
