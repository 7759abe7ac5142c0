use Rattle.std.proofs.Common.{◌++◌, ap}
use Rattle.std.specs.List.{flat_map}
use Rattle.desk_base.specs.Terminal.{shown}
use Rattle.desk_base.proofs.Lists.{joined_more}
use Rattle.desk_lists.proofs.Lists.{whole}
use Rattle.desk_lists.proofs.columns.add_each_shown.Goals as goal

pub loop-cell-preserved : goal.loop-cell-preserved
loop-cell-preserved c =
    joined_more shown c.args.cells.now c.loop-cell.cell-index c.cell-item.result
    c.args.text.now.items c.loop-cell.text.items
    c.add_shown.new.bytes.items (shown c.as_str.result.now) c.loop-cell-test.true c.cell-item.is
    c.loop-cell.invariant (ap shown c.as_str.ensures)
    c.in_ok-add_shown.ensures

pub returns : goal.returns
returns c =
    whole (λ cells. c.args.text.now.items ++ flat_map shown cells) c.args.cells.now
    c.loop-cell.cell-index c.loop-cell.text.items
    c.loop-cell-test.false c.loop-cell.invariant
