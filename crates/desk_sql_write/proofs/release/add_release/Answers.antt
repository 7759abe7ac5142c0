use Rattle.std.proofs.Common.{◌∷◌, []}
use Rattle.sqlite.specs.Held.{state}
use Rattle.desk_sql_layout.specs.Cells.{release_cells}
use Rattle.desk_sql_write.specs.Turning.{with_rows}
use Rattle.desk_sql_write.proofs.Going.{early_turns}
use Rattle.desk_sql_write.proofs.Stands.{last_small}
use Rattle.desk_sql_write.proofs.Inserts.{release_added}
use Rattle.desk_sql_write.proofs.release.add_release.Goals as goal

pub returns-clause-adds : goal.returns-clause-adds
returns-clause-adds g c =
    release_added c.args.row.now (state g.S.Store c.args.tx.now.conn.now)
    (state g.S.Store c.execute.new.tx.conn.now) c.execute.result
    (rw c.release_values.ensures at c.execute.ensures.ran)
    (rw c.release_values.ensures at c.execute.ensures.into) c.execute.ensures.survives

pub returns-in_err-revision-clause-adds : goal.returns-in_err-revision-clause-adds
returns-in_err-revision-clause-adds g c =
    let row = c.args.row.now in
    early_turns (λ rows. rows) (with_rows 14 (release_cells row ∷ [])) 1
    (state g.S.Store c.args.tx.now.conn.now) c.from_residual.result c.in_err-revision.field-0.0
    c.from_residual.ensures.1
    (λ rows after. absurd (c.in_err-revision.ensures.large (last_small rows row after)))
