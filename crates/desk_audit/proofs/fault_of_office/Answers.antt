use Rattle.std.proofs.Common.{[], ◌∷◌, Some, None}
use Rattle.desk_snapshot.specs.Reports.{IsFirst}
use Rattle.desk_snapshot.specs.declared.fault.AuditFault.TheVariants.{BadMeta, BadRevision, BadRule}
use Rattle.desk_snapshot.specs.declared.fault.AuditFault.TheVariants.{BadDocument, BadPackage}
use Rattle.desk_snapshot.specs.declared.fault.AuditFault.TheVariants.{BadChoice, BadNumber, BadDuty}
use Rattle.desk_snapshot.specs.declared.fault.AuditFault.TheVariants.{BadChange, BadState}
use Rattle.desk_audit.proofs.Firsts.{before, by_each, onward_ok}
use Rattle.desk_audit.proofs.fault_of_office.Goals as goal

pub returns-in-None : goal.returns-in-None
returns-in-None g c = λ w right.
    onward_ok w c.args.snapshot.now (BadChoice ∷ [])
    (BadNumber ∷ BadDuty ∷ BadChange ∷ BadState ∷ []) c.fault_of_duties.result
    (rw c.in-None.is at (c.in_ok-found.ensures w right)) (c.fault_of_duties.ensures w)
