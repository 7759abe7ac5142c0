use Rattle.desk_json.specs.Cells.{cell_data}
use Rattle.desk_json.proofs.ListLemmas.{all_values, value_more}
use Rattle.desk_json.proofs.cells.list.Goals as goal

pub loop-cell-preserved : goal.loop-cell-preserved
loop-cell-preserved c =
    value_more cell_data c.args.cells.now c.loop-cell.cell-index c.cell-item.result
    c.loop-cell.values.items c.push.new.self.items
    c.in_ok-cell_value.field-0 c.loop-cell-test.true c.cell-item.is c.loop-cell.invariant
    c.in_ok-cell_value.ensures c.in_ok-push.ensures.items

pub returns : goal.returns
returns c = all_values cell_data c.args.cells.now c.loop-cell.cell-index c.loop-cell.values
    c.loop-cell-test.false c.loop-cell.invariant
