use Rattle.std.proofs.Common.{sym, ◌∙◌}
use Rattle.desk_base.proofs.Bools.{contrary}
use Rattle.desk_audit.proofs.Judging.{changed, led_each}
use Rattle.desk_audit.proofs.changes.are_changes.Goals as goal

pub returns-then-not-are_changes_of_each : goal.returns-then-not-are_changes_of_each
returns-then-not-are_changes_of_each c = λ h.
    contrary c.are_changes_of_each.result
    (c.are_changes_of_each.ensures
    ∙ led_each c.args.snapshot.now c.args.snapshot.now.duty h.of_each)
    c.if-not-are_changes_of_each.true

pub returns : goal.returns
returns c =
    changed c.args.snapshot.now c.are_waived.result c.are_waived.ensures
    (sym c.are_changes_of_each.ensures ∙ c.if-not-are_changes_of_each.false)
    (sym c.are_of_duties.ensures ∙ c.if-not-are_of_duties.false)
