use Rattle.std.proofs.Common.{ℕ, List, Option, ap}
use Rattle.desk_model.specs.Queries.{open_duty}
use Rattle.desk_model.specs.declared.command.OpenDuty.{OpenDuty}
use Rattle.desk_questions.specs.Lists.{changes_found}
use Rattle.desk_bills.proofs.InTurn.{one_more}
use Rattle.desk_questions.proofs.lists.with_days.Goals as goal

pub loop-row-preserved : goal.loop-row-preserved
loop-row-preserved g c =
    let one = c.in_ok-day.ensures in
    let with_day : Option (List ℕ) → OpenDuty = λ day. record { duty = c.in-Some.row; day = day } in
    one_more (λ t. open_duty (changes_found t)) c.loop-row.yielded c.in-Some.row _ _ _ _ _ _
    c.loop-row.invariant one.kept
    (λ h t held. ap with_day (one.found h t held)) c.in_ok-push.ensures.items
