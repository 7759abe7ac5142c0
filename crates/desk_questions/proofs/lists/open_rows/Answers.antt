use Rattle.std.proofs.Common.{◌∙◌, ap, filter}
use Rattle.desk_model.specs.Keys.{is_duty_of}
use Rattle.desk_model.specs.States.{is_open}
use Rattle.desk_model.specs.declared.row.DutyRow.{DutyRow}
use Rattle.desk_questions.proofs.Lines.{filter_both}
use Rattle.desk_questions.proofs.lists.open_rows.Goals as goal

pub returns-clause-found : goal.returns-clause-found
returns-clause-found g c = λ h t held.
    let test = λ (row : DutyRow). is_open row.state in
    c.open_among.ensures
    ∙ (ap (filter test) (c.in_ok-rows.ensures.found h t
    (c.in_ok-may_be_open.ensures.kept.kept.spared.holds t held))
    ∙ filter_both (is_duty_of c.args.release.now) test t.duty)
