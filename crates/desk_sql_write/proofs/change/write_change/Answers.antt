use Rattle.sqlite.specs.Held.{state}
use Rattle.desk_sql_write.specs.Taking.{rows_in}
use Rattle.desk_sql_write.proofs.Applied.{adopted_first}
use Rattle.desk_sql_write.proofs.Known.{known_writes, known_fails}
use Rattle.desk_sql_write.proofs.change.write_change.Goals as goal

pub returns-in-Adopted-clause-wrote : goal.returns-in-Adopted-clause-wrote
returns-in-Adopted-clause-wrote g c =
    let old = state g.S.Store c.args.tx.now.conn.now in
    let new = state g.S.Store c.add_adoption.new.tx.conn.now in
    rw c.in-Adopted.is (adopted_first c.in-Adopted.row c.args.is_new c.if-is_new.true old new
    c.add_adoption.result
    c.add_adoption.ensures.adds).0

pub returns-in-Adopted-clause-cause : goal.returns-in-Adopted-clause-cause
returns-in-Adopted-clause-cause g c small =
    let old = state g.S.Store c.args.tx.now.conn.now in
    let new = state g.S.Store c.add_adoption.new.tx.conn.now in
    rw c.in-Adopted.is (adopted_first c.in-Adopted.row c.args.is_new c.if-is_new.true old new
    c.add_adoption.result
    c.add_adoption.ensures.adds).1

pub returns-in_default-clause-wrote : goal.returns-in_default-clause-wrote
returns-in_default-clause-wrote g c =
    known_writes c.args.is_new c.args.change.now (state g.S.Store c.args.tx.now.conn.now)
    (state g.S.Store c.make.new.tx.conn.now) c.make.result c.make.ensures.wrote

pub returns-in_default-clause-cause : goal.returns-in_default-clause-cause
returns-in_default-clause-cause g c small =
    known_fails c.args.is_new c.args.change.now (state g.S.Store c.args.tx.now.conn.now)
    (state g.S.Store c.make.new.tx.conn.now) (rows_in c.args.change.now) c.make.result
    (c.make.ensures.cause small)
