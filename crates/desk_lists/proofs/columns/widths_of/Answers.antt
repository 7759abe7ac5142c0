use Rattle.std.proofs.Common.{◌∙◌, ap, map}
use Rattle.desk_report.specs.Columns.{width}
use Rattle.desk_lists.proofs.Lists.{made_more, whole}
use Rattle.desk_lists.proofs.columns.widths_of.Goals as goal

pub loop-cell-preserved : goal.loop-cell-preserved
loop-cell-preserved c =
    made_more width c.args.cells.now c.loop-cell.cell-index c.cell-item.result
    c.loop-cell.widths.items c.push.new.self.items c.in_ok-wide.wide
    c.loop-cell-test.true c.cell-item.is c.loop-cell.invariant
    (c.in_ok-wide.ensures ∙ ap width c.as_str.ensures) c.in_ok-push.ensures.items

pub returns : goal.returns
returns c = whole (map width) c.args.cells.now c.loop-cell.cell-index c.loop-cell.widths.items
    c.loop-cell-test.false c.loop-cell.invariant
