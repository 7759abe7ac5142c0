use Rattle.std.proofs.Common.{◌∙◌, ◌++◌, ap}
use Rattle.std.specs.String.{string_bytes}
use Rattle.desk_page.specs.Cells.{cell_of, cell_text}
use Rattle.desk_page.specs.declared.cell.Cell.{Cell}
use Rattle.desk_base.proofs.Lists.{mapped_more}
use Rattle.desk_page.proofs.cell.add_row.Goals as goal

pub loop-cell-preserved : goal.loop-cell-preserved
loop-cell-preserved c =
    mapped_more cell_text cell_of c.args.cells.now c.loop-cell.cell-index c.cell-item.result
    (string_bytes c.args.text.now)
    (string_bytes c.loop-cell.text) (string_bytes c.add_cell.new.text) c.loop-cell-test.true
    c.loop-cell.invariant
    (c.in_ok-add_cell.ensures ∙ ap (λ (cell : Cell). string_bytes c.loop-cell.text
    ++ cell_text (cell_of cell)) c.cell-item.is)
