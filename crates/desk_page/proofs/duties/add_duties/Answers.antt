use Rattle.std.proofs.Common.{refl}
use Rattle.std.specs.String.{string_bytes}
use Rattle.desk_page.specs.Rows.{duty_row}
use Rattle.desk_base.proofs.Lists.{joined_more}
use Rattle.desk_page.proofs.duties.add_duties.Goals as goal

pub loop-duty-preserved : goal.loop-duty-preserved
loop-duty-preserved c =
    joined_more duty_row c.args.duties.now c.loop-duty.duty-index c.duty-item.result
    (string_bytes c.args.text.now) (string_bytes c.loop-duty.text)
    (string_bytes c.add_duty.new.text) _ c.loop-duty-test.true c.duty-item.is
    c.loop-duty.invariant refl c.in_ok-add_duty.ensures
