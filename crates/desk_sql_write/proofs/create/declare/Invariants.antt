use Rattle.std.proofs.Common.{◌≡◌, drop, map, IsTrue}
use Rattle.sqlite.specs.Held.{state}
use Rattle.sqlite.specs.State.{HasCleanDisk, Survives}
use Rattle.desk_sql_write.specs.Declaring.{Went}
use Rattle.desk_sql_write.proofs.create.declare.Given as goal

abbrev pub invariant-loop-place : goal.invariant-loop-place
invariant-loop-place g l = record {
  same_reference : l.tx.conn.ghost_name ≡ l.fn.tx.conn.ghost_name;
  went : HasCleanDisk (state g.S.Store l.tx.conn.now) → IsTrue l.fn.tx.conn.now.in_transaction
      → Went (map (λ text. text.now) l.texts) (drop l.place (map (λ text. text.now) l.texts))
      (state g.S.Store l.fn.tx.conn.now) (state g.S.Store l.tx.conn.now);
  survives : Survives (state g.S.Store l.fn.tx.conn.now) (state g.S.Store l.tx.conn.now) (λ _. ⊥);
}
