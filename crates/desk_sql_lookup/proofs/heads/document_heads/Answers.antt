use Rattle.std.proofs.Common.{◌≡◌, ◌∙◌, map, subst, sym}
use Rattle.std.specs.List.{AllByRecursion}
use Rattle.std.proofs.lemmas.Result.{IfOk-weaker}
use Rattle.sqlite.specs.Held.{state}
use Rattle.desk_model.specs.Queries.{head_of}
use Rattle.desk_sql_layout.specs.Cells.{document_cells}
use Rattle.desk_sql_layout.specs.Causes.{IsRow}
use Rattle.desk_sql_layout.specs.Shown.{name_cells}
use Rattle.desk_sql_layout.proofs.Causes.{every_written, read_cause}
use Rattle.desk_sql_lookup.proofs.LookUps.{then_tells}
use Rattle.desk_sql_lookup.proofs.heads.document_heads.Goals as goal

pub returns : goal.returns
returns g c =
    then_tells g.S.Store c.args.conn.now c.select_both.new.conn c.in_ok-names.ensures
    (λ t. Unit {0}) c.read_heads.result (λ found t. found.items ≡ map head_of t.document)
    (IfOk-weaker c.read_heads.result _ _
    (λ found told clean t held.
    let it = c.in_ok-names.ensures.found clean t held in
    told t.document (c.deref.ensures.value ∙ it.0) (c.deref-2.ensures.value ∙ it.1))
    c.read_heads.ensures.value)
    (read_cause (λ t. Unit {0}) (state g.S.Store c.args.conn.now)
    (state g.S.Store c.select_both.new.conn) c.read_heads.result _
    (λ clean t held written any fault told.
    let it = c.in_ok-names.ensures.found clean t held in
    let names = c.deref.ensures.value ∙ it.0 in
    let readings = c.deref-2.ensures.value ∙ it.1 in
    told t.document names readings
    (subst (AllByRecursion IsRow) (sym names)
    (every_written document_cells name_cells (λ x row. (row.0, (row.1.0, tt))) t.document
    (written.cells 4)))
    (subst (AllByRecursion IsRow) (sym readings) (written.cells 27)))
    c.read_heads.ensures.cause)
