use Rattle.std.proofs.Common.{ℕ, List, Option, ap}
use Rattle.desk_model.specs.declared.command.DutyLine.{DutyLine}
use Rattle.desk_history.specs.FromTables.{line_found}
use Rattle.desk_bills.proofs.InTurn.{one_more}
use Rattle.desk_questions.proofs.ask.duty_lines.Goals as goal

pub loop-row-preserved : goal.loop-row-preserved
loop-row-preserved g c =
    let one = c.in_ok-day.ensures in
    let with_day : Option (List ℕ) → DutyLine =
    λ day. record {
      number = c.in-Some.row.number;
      document = c.in-Some.row.document;
      package_id = c.in-Some.row.package_id;
      term = c.in-Some.row.term;
      rule = c.in-Some.row.rule;
      code = c.in-Some.row.code;
      state = c.in-Some.row.state;
      day = day;
    } in
    one_more line_found c.loop-row.yielded c.in-Some.row _ _ _ _ _ _ c.loop-row.invariant one.kept
    (λ h t held. ap with_day (one.found h t held)) c.in_ok-push.ensures.ok
