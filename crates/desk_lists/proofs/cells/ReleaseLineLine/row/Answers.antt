use Rattle.std.proofs.Common.{◌≡◌, ◌∙◌, ◌∷◌, rules, to_z, of_z, w64}
use Rattle.std.specs.Fmt.{signed_decimal}
use Rattle.std.proofs.lemmas.Result.{IfOk-weaker}
use Rattle.desk_lists.specs.Cells.{totals_cells}
use Rattle.desk_lists.proofs.cells.ReleaseLineLine.row.Goals as goal

pub returns : goal.returns
returns c =
    let revision : to_z w64 (of_z w64 c.args.self.now.revision) ≡ c.args.self.now.revision =
    search rules in
    IfOk-weaker c.row_of.result _ _ (λ row is.
    is ∙ (λ i. c.as_str.ensures i ∷ c.as_str-2.ensures i ∷ c.as_str-3.ensures i
    ∷ signed_decimal (revision i) ∷ totals_cells c.args.self.now.duties))
    c.row_of.ensures
