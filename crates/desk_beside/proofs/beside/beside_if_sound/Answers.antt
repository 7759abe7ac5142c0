use Rattle.std.proofs.Common.{◌≡◌, rules}
use Rattle.desk_model.specs.Readings.{Readings}
use Rattle.desk_model.specs.declared.command.Fault.TheVariants.{Store}
use Rattle.desk_model.specs.declared.command.StoreFault.TheVariants.{Rows}
use Rattle.desk_snapshot.specs.Reports.{Meets}
use Rattle.desk_snapshot.specs.declared.fault.AuditFault.{AuditFault}
use Rattle.desk_texts.specs.Right.{AreRight}
use Rattle.desk_beside.proofs.beside.beside_if_sound.Goals as goal

pub returns-in_err-beside_of-in-Sound-clause-rows : goal.returns-in_err-beside_of-in-Sound-clause-rows
returns-in_err-beside_of-in-Sound-clause-rows c =
    let told : c.in_err-beside_of-in-Sound.field-0.0 ≡ Store Rows → (w : Readings) → AreRight w
    → (f : AuditFault) → Meets w c.args.snapshot.now f =
    λ is w right. rw c.in-Sound.is at (c.in_ok-judge.ensures w right) in
    search rules

pub returns-in_ok-beside_of-in-Sound-clause-report : goal.returns-in_ok-beside_of-in-Sound-clause-report
returns-in_ok-beside_of-in-Sound-clause-report c = λ w right.
    rw c.in-Sound.is at (c.in_ok-judge.ensures w right)

pub returns-in-Unsound-clause-report : goal.returns-in-Unsound-clause-report
returns-in-Unsound-clause-report c = λ w right.
    rw c.in-Unsound.is at (c.in_ok-judge.ensures w right)
