use Rattle.std.proofs.Common.{refl}
use Rattle.sqlite.specs.Held.{state}
use Rattle.desk_sql_write.proofs.Empty.{all_texts, err_founds, declared_fails, founded, founding_fails}
use Rattle.desk_sql_write.proofs.create.declare_tables.Goals as goal

pub returns-clause-founded : goal.returns-clause-founded
returns-clause-founded g c =
    founded (state g.S.Store c.args.tx.now.conn.now) (state g.S.Store c.declare.new.tx.conn.now)
    (state g.S.Store c.execute.new.tx.conn.now) all_texts c.execute.result refl
    c.in_ok-declare.ensures.declared c.execute.ensures.survives c.execute.ensures.ran
    c.execute.ensures.into

pub returns-clause-cause : goal.returns-clause-cause
returns-clause-cause g c =
    founding_fails (state g.S.Store c.args.tx.now.conn.now)
    (state g.S.Store c.declare.new.tx.conn.now) (state g.S.Store c.execute.new.tx.conn.now)
    all_texts c.execute.result refl
    c.in_ok-declare.ensures.declared c.declare.ensures.survives c.execute.ensures.survives
    c.execute.ensures.ran c.execute.ensures.into

pub returns-in_err-declare-clause-cause : goal.returns-in_err-declare-clause-cause
returns-in_err-declare-clause-cause g c =
    let a = state g.S.Store c.args.tx.now.conn.now in
    let b = state g.S.Store c.declare.new.tx.conn.now in
    let fault = c.in_err-declare.field-0.0 in
    err_founds a b c.from_residual.result fault c.from_residual.ensures.1
    (declared_fails a b all_texts fault refl c.in_err-declare.ensures.cause)
