use Rattle.std.proofs.Common.{◌∙◌, ◌∷◌, decimal}
use Rattle.std.proofs.lemmas.Result.{IfOk-weaker}
use Rattle.desk_lists.specs.Cells.{totals_cells}
use Rattle.desk_answers.proofs.rows.ReleaseLineRow.row.Goals as goal

pub returns : goal.returns
returns c =
    IfOk-weaker c.row_of.result _ _ (λ row is.
    is ∙ (λ i. c.as_str.ensures i ∷ c.as_str-2.ensures i ∷ c.name.ensures i
    ∷ decimal c.args.self.now.release.revision ∷ totals_cells c.args.self.now.totals))
    c.row_of.ensures
