use Rattle.std.proofs.Common.{◌≡◌}
use Rattle.std.specs.Prelude.{slice_get}
use Rattle.desk_sql_layout.proofs.Queried.{query_failed, rows_told}
use Rattle.desk_sql_layout.proofs.query.read_one.Goals as goal

pub returns-in_err-rows : goal.returns-in_err-rows
returns-in_err-rows g c =
    query_failed g.S.Store c.args.conn.now c.query.new.conn _ c.in_err-rows.field-0.0
    c.in_err-rows.ensures
    c.from_residual.result c.from_residual.ensures.1

pub returns : goal.returns
returns g c =
    rows_told g.S.Store c.args.conn.now c.query.new.conn g.T.ReadRow.cells g.T.ReadRow.has_days
    (λ found rows. found ≡ slice_get rows 0) c.in_ok-rows.rows c.in_ok-rows.ensures
    c.read_first.result
    (rw c.deref.ensures.value at c.read_first.ensures.value)
    (rw c.deref.ensures.value at c.read_first.ensures.cause)
