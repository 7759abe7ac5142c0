-- What an audit reports: the ten conditions in their order, and the first that isn't met.
use Rattle.std.specs.Prelude.{◌≡◌, ◌⊎◌, ℕ, ◌<◌, List, [], ◌∷◌, Option, Some, None, codes}
use Rattle.desk_model.specs.Readings.{Readings}
use Rattle.desk_snapshot.specs.Conditions.{HasVersion, AreRevisions, AreRules, AreDocuments}
use Rattle.desk_snapshot.specs.Conditions.{ArePackages, AreChoices, AreNumbered, AreDuties}
use Rattle.desk_snapshot.specs.Conditions.{AreChanges, AreStates}
use Rattle.desk_snapshot.specs.declared.fault.AuditFault.{AuditFault}
use Rattle.desk_snapshot.specs.declared.fault.AuditFault.TheVariants.{BadMeta, BadRevision, BadRule}
use Rattle.desk_snapshot.specs.declared.fault.AuditFault.TheVariants.{BadDocument, BadPackage}
use Rattle.desk_snapshot.specs.declared.fault.AuditFault.TheVariants.{BadChoice, BadNumber, BadDuty}
use Rattle.desk_snapshot.specs.declared.fault.AuditFault.TheVariants.{BadChange, BadState}
use Rattle.desk_snapshot.specs.declared.fault.AuditReport.{AuditReport}
use Rattle.desk_snapshot.specs.declared.fault.AuditReport.TheVariants.{Sound, Unsound}
use Rattle.desk_snapshot.specs.declared.snapshot.Snapshot.{Snapshot}

-- the name by which an audit reports the condition that isn't met
abbrev pub audit_name : AuditFault → List ℕ
audit_name BadMeta = codes "BadMeta"
audit_name BadRevision = codes "BadRevision"
audit_name BadRule = codes "BadRule"
audit_name BadDocument = codes "BadDocument"
audit_name BadPackage = codes "BadPackage"
audit_name BadChoice = codes "BadChoice"
audit_name BadNumber = codes "BadNumber"
audit_name BadDuty = codes "BadDuty"
audit_name BadChange = codes "BadChange"
audit_name BadState = codes "BadState"

-- the order of the conditions
abbrev pub audit_number : AuditFault → ℕ
audit_number BadMeta = 1
audit_number BadRevision = 2
audit_number BadRule = 3
audit_number BadDocument = 4
audit_number BadPackage = 5
audit_number BadChoice = 6
audit_number BadNumber = 7
audit_number BadDuty = 8
audit_number BadChange = 9
audit_number BadState = 10

-- the condition whose failure a fault reports
abbrev pub Meets : Readings → Snapshot → AuditFault → Type 0
Meets w s BadMeta = HasVersion s
Meets w s BadRevision = AreRevisions w s
Meets w s BadRule = AreRules w s
Meets w s BadDocument = AreDocuments w s
Meets w s BadPackage = ArePackages w s
Meets w s BadChoice = AreChoices w s
Meets w s BadNumber = AreNumbered s
Meets w s BadDuty = AreDuties s
Meets w s BadChange = AreChanges s
Meets w s BadState = AreStates s

-- all ten conditions are met; or this one isn't, and those before it are
abbrev pub IsReport : Readings → Snapshot → AuditReport → Type 0
IsReport w s Sound = (f : AuditFault) → Meets w s f
IsReport w s (Unsound f) = (Meets w s f → ⊥)
    × ((g : AuditFault) → audit_number g < audit_number f → Meets w s g)

-- of some conditions, each given by its fault, the first that isn't met, if there is one
abbrev pub IsFirst : Readings → Snapshot → List AuditFault → Option AuditFault → Type 0
IsFirst w s [] None = Unit {0}
IsFirst w s [] (Some f) = ⊥
IsFirst w s (g ∷ gs) found = ((found ≡ Some g) × (Meets w s g → ⊥))
    ⊎ (Meets w s g × IsFirst w s gs found)
