use Rattle.std.proofs.Common.{[], ◌∙◌, ap₂}
use Rattle.std.specs.List.{flat_map}
use Rattle.desk_lists.specs.Columns.{columns_text, row_line, widths}
use Rattle.desk_base.proofs.Lists.{joined_more}
use Rattle.desk_lists.proofs.Lists.{whole}
use Rattle.desk_lists.proofs.columns.columns_text.Goals as goal

pub loop-row-preserved : goal.loop-row-preserved
loop-row-preserved c =
    joined_more (row_line (widths c.args.rows.now)) c.args.rows.now c.loop-row.row-index
    c.row-item.result [] c.loop-row.text.items
    c.add_row.new.text.items (row_line c.as_slice.result.now c.as_slice-in-loop-row.result.now)
    c.loop-row-test.true c.row-item.is c.loop-row.invariant
    (ap₂ row_line (c.as_slice.ensures.value ∙ c.in_ok-widths.ensures)
    c.as_slice-in-loop-row.ensures) c.in_ok-add_row.ensures

pub returns : goal.returns
unfolding columns_text
returns c =
    whole (flat_map (row_line (widths c.args.rows.now))) c.args.rows.now c.loop-row.row-index
    c.loop-row.text.items c.loop-row-test.false
    c.loop-row.invariant
