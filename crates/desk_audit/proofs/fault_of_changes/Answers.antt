use Rattle.std.proofs.Common.{[], ◌∷◌, Some, None}
use Rattle.desk_snapshot.specs.declared.fault.AuditFault.TheVariants.{BadMeta, BadRevision, BadRule}
use Rattle.desk_snapshot.specs.declared.fault.AuditFault.TheVariants.{BadDocument, BadPackage}
use Rattle.desk_snapshot.specs.declared.fault.AuditFault.TheVariants.{BadChoice, BadNumber, BadDuty}
use Rattle.desk_snapshot.specs.declared.fault.AuditFault.TheVariants.{BadChange, BadState}
use Rattle.desk_audit.proofs.Firsts.{before, onward}
use Rattle.desk_audit.proofs.fault_of_changes.Goals as goal

pub returns-in-Some : goal.returns-in-Some
returns-in-Some c = λ w. before w c.args.snapshot.now (BadChange ∷ []) (BadState ∷ [])
    c.in-Some.fault (rw c.in-Some.is at (c.change_fault.ensures w))

pub returns-in-None : goal.returns-in-None
returns-in-None c = λ w. onward w c.args.snapshot.now (BadChange ∷ []) (BadState ∷ [])
    c.state_fault.result (rw c.in-None.is at (c.change_fault.ensures w)) (c.state_fault.ensures w)
