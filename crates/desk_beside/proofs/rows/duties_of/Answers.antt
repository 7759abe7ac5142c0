use Rattle.std.proofs.Common.{◌≡◌, ◌∙◌, List, map, rules}
use Rattle.std.specs.List.{AllByRecursion}
use Rattle.desk_model.specs.declared.command.Fault.TheVariants.{Memory}
use Rattle.desk_model.specs.declared.row.DutyRow.{DutyRow}
use Rattle.desk_snapshot.specs.Tables.{duty_stored}
use Rattle.desk_beside.specs.Beside.{IsSmallDuty}
use Rattle.desk_beside.proofs.Stored.{at_place}
use Rattle.desk_beside.proofs.rows.duties_of.Goals as goal

pub returns-in_err-duty_of-clause-cause : goal.returns-in_err-duty_of-clause-cause
returns-in_err-duty_of-clause-cause c =
    let told : (xs : List DutyRow) → c.args.rows.now ≡ map duty_stored xs
    → AllByRecursion IsSmallDuty xs → c.in_err-duty_of.field-0.0 ≡ Memory = λ xs is each.
    let x = at_place duty_stored IsSmallDuty xs c.args.rows.now c.loop-row.row-index
    c.row-item.result is c.loop-row-test.true each in
    c.in_err-duty_of.ensures.cause x.0 (c.row-item.is ∙ x.1) x.2 in
    search rules
