-- What `audit` writes, and the status that it returns.
use Rattle.std.specs.Prelude.{ℕ, List, codes}
use Rattle.desk_snapshot.specs.Reports.{audit_name}
use Rattle.desk_snapshot.specs.declared.fault.AuditReport.{AuditReport}
use Rattle.desk_snapshot.specs.declared.fault.AuditReport.TheVariants.{Sound, Unsound}

-- `sound`, or the name of the first condition that isn't met
abbrev pub report_name : AuditReport → List ℕ
report_name Sound = codes "sound"
report_name (Unsound fault) = audit_name fault

-- the program's status: refused if the tables aren't sound
abbrev pub report_status : AuditReport → ℕ
report_status Sound = 0
report_status (Unsound fault) = 1
