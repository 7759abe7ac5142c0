use Rattle.std.proofs.Common.{[], ◌∷◌, Some, None}
use Rattle.desk_snapshot.specs.Reports.{IsFirst}
use Rattle.desk_snapshot.specs.declared.fault.AuditFault.TheVariants.{BadMeta, BadRevision, BadRule}
use Rattle.desk_snapshot.specs.declared.fault.AuditFault.TheVariants.{BadDocument, BadPackage}
use Rattle.desk_snapshot.specs.declared.fault.AuditFault.TheVariants.{BadChoice, BadNumber, BadDuty}
use Rattle.desk_snapshot.specs.declared.fault.AuditFault.TheVariants.{BadChange, BadState}
use Rattle.desk_audit.proofs.Firsts.{before, by_each, onward_ok}
use Rattle.desk_audit.proofs.fault_of_duties.Goals as goal

pub returns-in-Some : goal.returns-in-Some
returns-in-Some c = λ w. before w c.args.snapshot.now (BadNumber ∷ [])
    (BadDuty ∷ BadChange ∷ BadState ∷ []) c.in-Some.fault
    (rw c.in-Some.is at (c.number_fault.ensures w))

pub returns-in-None : goal.returns-in-None
returns-in-None c = λ w.
    onward_ok w c.args.snapshot.now (BadNumber ∷ []) (BadDuty ∷ BadChange ∷ BadState ∷ [])
    c.fault_of_owed.result (rw c.in-None.is at (c.number_fault.ensures w))
    (by_each (λ w. IsFirst w c.args.snapshot.now (BadDuty ∷ BadChange ∷ BadState ∷ []))
    c.fault_of_owed.result c.fault_of_owed.ensures w)
