use Rattle.std.proofs.Common.{◌≡◌, false, IsTrue}
use Rattle.sqlite.specs.Held.{state}
use Rattle.sqlite.specs.State.{HasCleanDisk}
use Rattle.sqlite.specs.Values.{bound}
use Rattle.desk_access.specs.Seen.{Same}
use Rattle.desk_sql_layout.specs.Held.{seen_of}
use Rattle.desk_sql_layout.specs.Causes.{IsPlainText}
use Rattle.desk_sql_layout.proofs.Streaming.{HasRead}
use Rattle.desk_sql_layout.proofs.query.read_rows.Given as goal

abbrev pub invariant-rows : goal.invariant-rows
invariant-rows g l = record {
  reference : l.rows.conn.ghost_name ≡ l.initial.rows.conn.ghost_name;
  mode : l.fn.conn.in_transaction ≡ false → l.rows.conn.now.in_transaction ≡ false;
  limit : l.rows.conn.now.step_limit ≡ l.fn.conn.step_limit;
  opened : HasCleanDisk (state g.S.Store l.rows.conn.now)
      → IsTrue (state g.S.Store l.fn.conn).is_open;
  same : IsPlainText l.sql
      → Same (seen_of (state g.S.Store l.fn.conn)) (seen_of (state g.S.Store l.rows.conn.now));
  read : IsPlainText l.sql
      → HasRead g.S.Store g.T.ReadRow.cells l.sql (bound l.params) l.fn.conn l.rows.conn.now
      l.found.items;
}
