use Rattle.desk_lists.specs.CsvTable.{as_text}
use Rattle.desk_lists.proofs.Lists.{made_more}
use Rattle.desk_lists.proofs.table.as_texts.Goals as goal

pub loop-cell-preserved : goal.loop-cell-preserved
loop-cell-preserved c =
    made_more as_text c.args.cells.now c.loop-cell.cell-index c.cell-item.result
    c.loop-cell.texts.items c.push.new.self.items c.in_ok-as_text.field-0
    c.loop-cell-test.true c.cell-item.is c.loop-cell.invariant c.in_ok-as_text.ensures c.in_ok-push.ensures.items
