use Rattle.std.proofs.Common.{refl}
use Rattle.std.specs.String.{string_bytes}
use Rattle.desk_page.specs.Rows.{change_row}
use Rattle.desk_base.proofs.Lists.{joined_more}
use Rattle.desk_page.proofs.duties.add_duty_changes.Goals as goal

pub loop-change-preserved : goal.loop-change-preserved
loop-change-preserved c =
    joined_more change_row c.args.changes.now c.loop-change.change-index c.change-item.result
    (string_bytes c.args.text.now) (string_bytes c.loop-change.text)
    (string_bytes c.add_change.new.text) _ c.loop-change-test.true c.change-item.is
    c.loop-change.invariant refl c.in_ok-add_change.ensures
