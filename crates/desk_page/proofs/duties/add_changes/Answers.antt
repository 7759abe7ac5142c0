use Rattle.std.proofs.Common.{◌∙◌, ◌++◌, ap, refl}
use Rattle.std.specs.List.{flat_map}
use Rattle.std.specs.String.{string_bytes}
use Rattle.desk_page.specs.Rows.{change_row}
use Rattle.desk_base.proofs.Lists.{joined_more}
use Rattle.desk_page.proofs.duties.add_changes.Goals as goal

pub loop-steps-preserved : goal.loop-steps-preserved
loop-steps-preserved c =
    joined_more (flat_map change_row) c.args.changes.now c.loop-steps.steps-index
    c.steps-item.result (string_bytes c.args.text.now)
    (string_bytes c.loop-steps.text) (string_bytes c.add_duty_changes.new.text) _
    c.loop-steps-test.true c.steps-item.is c.loop-steps.invariant refl
    (c.in_ok-add_duty_changes.ensures
    ∙ ap (λ rows. string_bytes c.loop-steps.text ++ flat_map change_row rows) c.as_slice.ensures)
