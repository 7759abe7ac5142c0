use Rattle.std.proofs.Common.{◌∙◌, map, List, sym, subst}
use Rattle.sqlite.specs.Held.{state}
use Rattle.desk_model.specs.declared.row.ChangeRow.{ChangeRow}
use Rattle.desk_sql_layout.specs.Cells.{waiver_cells}
use Rattle.desk_sql_write.specs.Turning.{Adds, with_rows}
use Rattle.desk_sql_write.proofs.Behind.{none_put}
use Rattle.desk_sql_write.proofs.Inserts.{waiver_added}
use Rattle.desk_sql_write.proofs.Lists.{waiver_kept}
use Rattle.desk_sql_write.proofs.duty.ChangeRowAdded.add.Goals as goal

pub returns-in-Some-clause-adds : goal.returns-in-Some-clause-adds
returns-in-Some-clause-adds g c =
    let a = state g.S.Store c.args.tx.now.conn.now in
    let b = state g.S.Store c.execute.new.tx.conn.now in
    let row = c.args.self.now in
    subst (λ (l : List ChangeRow). Adds (with_rows 28 (map waiver_cells l)) 1 a b c.execute.result)
    (sym (waiver_kept row _ c.in-Some.is))
    (waiver_added row (λ none. let no = sym c.in-Some.is ∙ none in cc) a b c.execute.result
    (rw c.waiver_values.ensures at c.execute.ensures.ran)
    (rw c.waiver_values.ensures at c.execute.ensures.into) c.execute.ensures.survives)

pub returns-in-None-clause-adds : goal.returns-in-None-clause-adds
returns-in-None-clause-adds g c = rw c.in-None.is
    (none_put 28 1 (state g.S.Store c.args.tx.now.conn.now))
