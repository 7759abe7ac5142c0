use Rattle.std.proofs.Common.{◌≡◌, ◌∙◌, filter, length, subst, sym}
use Rattle.std.specs.List.{AllByRecursion}
use Rattle.std.proofs.lemmas.Result.{IfOk-weaker}
use Rattle.sqlite.specs.Held.{state}
use Rattle.desk_model.specs.Keys.{is_change_of}
use Rattle.desk_model.specs.Tables.{Tables}
use Rattle.desk_sql_layout.specs.Cells.{change_cells}
use Rattle.desk_sql_layout.specs.Causes.{HasDay, HasLastDay, IsRow}
use Rattle.desk_sql_layout.proofs.Causes.{filter_all, filter_written, read_cause}
use Rattle.desk_sql_lookup.proofs.Ending.{ends_on_days, ends_written}
use Rattle.desk_sql_lookup.proofs.LookUps.{fails_any, then_tells}
use Rattle.desk_sql_lookup.proofs.changes.changes_of.Goals as goal

pub returns-in_err-changes : goal.returns-in_err-changes
returns-in_err-changes g c =
    fails_any g.S.Store c.args.conn.now c.select_both.new.conn c.from_residual.result
    c.in_err-changes.field-0.0 c.from_residual.ensures.1
    (λ found t. length t.duty ≡ c.args.duties
    → found.items ≡ filter (is_change_of c.args.duty) t.changes)
    (λ t. length t.duty ≡ c.args.duties) c.in_err-changes.ensures

pub returns : goal.returns
returns g c =
    let p = is_change_of c.args.duty in
    let If = λ (t : Tables). length t.duty ≡ c.args.duties in
    then_tells g.S.Store c.args.conn.now c.select_both.new.conn c.in_ok-changes.ensures
    (λ t. length t.duty ≡ c.args.duties) c.read_changes.result
    (λ found t. length t.duty ≡ c.args.duties → found.items ≡ filter p t.changes)
    (IfOk-weaker c.read_changes.result _ _
    (λ found told clean t held is.
    let it = c.in_ok-changes.ensures.found clean t held is in
    told (filter p t.changes) it.1 (c.deref.ensures.value ∙ it.0) (c.deref-2.ensures.value ∙ it.2))
    c.read_changes.ensures.value)
    (read_cause If (state g.S.Store c.args.conn.now) (state g.S.Store c.select_both.new.conn)
    c.read_changes.result _
    (λ clean t held written is fault told.
    let it = c.in_ok-changes.ensures.found clean t held is in
    let rows = c.deref.ensures.value ∙ it.0 in
    let ends = c.deref-2.ensures.value ∙ it.2 in
    told (filter p t.changes) rows ends
    (subst (AllByRecursion IsRow) (sym rows)
    (filter_written change_cells change_cells (λ x row. row) p t.changes (written.cells 25)))
    (subst (AllByRecursion IsRow) (sym ends) (ends_written p t.changes (written.cells 28)))
    (filter_all HasDay p t.changes written.days)
    (ends_on_days (filter p t.changes) (filter_all HasLastDay p t.changes written.last_days)))
    c.read_changes.ensures.cause)
