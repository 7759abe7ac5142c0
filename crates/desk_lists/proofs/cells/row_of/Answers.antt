use Rattle.desk_lists.specs.Cells.{cell_text}
use Rattle.desk_lists.proofs.Lists.{made_at}
use Rattle.desk_lists.proofs.cells.row_of.Goals as goal

pub loop-cell-preserved : goal.loop-cell-preserved
loop-cell-preserved c =
    made_at cell_text c.args.cells.now c.loop-cell.cell-index _ c.loop-cell.row.items
    c.push.new.self.items c.in_ok-cell_text.field-0
    c.loop-cell-test.true c.loop-cell.invariant c.in_ok-cell_text.ensures c.in_ok-push.ensures.items
