use Rattle.std.proofs.Common.{◌≡◌, ◌∙◌, filter, subst, sym}
use Rattle.std.specs.List.{AllByRecursion}
use Rattle.std.proofs.lemmas.Result.{IfOk-weaker}
use Rattle.sqlite.specs.Held.{state}
use Rattle.desk_model.specs.Keys.{is_change_of}
use Rattle.desk_model.specs.Queries.{last_day}
use Rattle.desk_sql_layout.specs.Cells.{change_cells}
use Rattle.desk_sql_layout.specs.Causes.{HasDay, IsRow}
use Rattle.desk_sql_layout.specs.Shown.{day_cells}
use Rattle.desk_sql_layout.proofs.Causes.{filter_all, filter_written, read_cause}
use Rattle.desk_sql_lookup.proofs.LookUps.{then_tells}
use Rattle.desk_sql_lookup.proofs.changes.last_day.Goals as goal

pub returns : goal.returns
returns g c =
    let p = is_change_of c.args.duty in
    then_tells g.S.Store c.args.conn.now c.select_days_of.new.conn c.in_ok-rows.ensures
    (λ t. Unit {0}) c.last_of.result (λ found t. found ≡ last_day (filter p t.changes))
    (IfOk-weaker c.last_of.result _ _
    (λ found is clean t held. is (filter p t.changes)
    (c.deref.ensures.value ∙ c.in_ok-rows.ensures.found clean t held)) c.last_of.ensures.value)
    (read_cause (λ t. Unit {0}) (state g.S.Store c.args.conn.now)
    (state g.S.Store c.select_days_of.new.conn) c.last_of.result _
    (λ clean t held written any fault told.
    let rows = c.deref.ensures.value ∙ c.in_ok-rows.ensures.found clean t held in
    told (filter p t.changes) rows
    (subst (AllByRecursion IsRow) (sym rows)
    (filter_written change_cells day_cells (λ x row. (row.1.1.0, tt)) p t.changes
    (written.cells 25))) (filter_all HasDay p t.changes written.days))
    c.last_of.ensures.cause)
