use Rattle.std.proofs.Common.{◌≡◌, ◌++◌, List, length, Ok}
use Rattle.sqlite.specs.Held.{state}
use Rattle.desk_model.specs.Tables.{moved_by}
use Rattle.desk_model.specs.declared.row.ChangeRow.{ChangeRow}
use Rattle.desk_sql_layout.specs.Held.{rows_of}
use Rattle.desk_sql_write.specs.Turning.{Turns}
use Rattle.desk_sql_write.proofs.duty.set_duties.Given as goal

-- the duties of the changes after those that are left have been set
abbrev pub invariant-loop-these : goal.invariant-loop-these
invariant-loop-these g l = (set : List ChangeRow) × record {
  whole : l.rows ≡ l.left ++ set;
  same_reference : l.tx.conn.ghost_name ≡ l.fn.tx.conn.ghost_name;
  sets : Turns rows_of (λ t. rows_of (record t { duty = moved_by set t.duty })) 0
      (state g.S.Store l.fn.tx.conn.now) (state g.S.Store l.tx.conn.now) (Ok tt);
}

abbrev pub decreases-loop-these : goal.decreases-loop-these
decreases-loop-these g l = length l.left
