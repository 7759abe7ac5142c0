use Rattle.std.proofs.Common.{◌≡◌, ◌∙◌, slice_get}
use Rattle.desk_model.specs.Keys.{is_conclusion}
use Rattle.desk_model.specs.declared.row.ConclusionRow.{ConclusionRow}
use Rattle.desk_model.specs.Conclusions.{office_text}
use Rattle.desk_sql_layout.specs.Shown.{text_cells}
use Rattle.desk_sql_layout.proofs.Finding.{finds_mapped}
use Rattle.desk_sql_layout.proofs.Loops.{first_mapped}
use Rattle.desk_sql_lookup.proofs.OfficeQueries.{conclusion_finds}
use Rattle.desk_sql_lookup.proofs.LookUps.{rows_found}
use Rattle.desk_sql_lookup.proofs.office.conclusion.Goals as goal

pub returns : goal.returns
returns g c =
    let expression = λ (row : ConclusionRow). row.expression in
    rows_found g.S.Store c.args.conn.now c.read_one.new.conn
    (finds_mapped text_cells expression (conclusion_finds c.args.document c.args.id.now))
    c.read_one.result (λ found rows. found ≡ slice_get rows 0)
    (rw (c.number.ensures, c.text.ensures) at c.read_one.ensures) (λ t. Unit {0})
    (λ found t. found ≡ office_text t.conclusion c.args.document c.args.id.now)
    (λ found t orderly is. is ∙ first_mapped expression
    (is_conclusion c.args.document c.args.id.now) t.conclusion)
