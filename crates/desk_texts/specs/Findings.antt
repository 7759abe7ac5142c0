-- A document's findings (`desk_findings`). Its licence fields are read by the profile with which it
-- was imported.
use Rattle.std.specs.Prelude.{◌≡◌, ℕ, List, [], Option, Result, Ok, Err}
use Rattle.desk_base.specs.declared.profile.Profile.{Profile}
use Rattle.desk_expr.specs.Tree.{Tree}
use Rattle.desk_fields.specs.declared.fault.DocFault.{DocFault}
use Rattle.desk_model.specs.declared.finding.Finding.{Finding}
use Rattle.desk_findings.specs.Fields.{IsReading}
use Rattle.desk_findings.specs.Findings.{AreFindings}
use Rattle.desk_tagvalue.specs.Parts.{DocumentText}

-- the findings of bytes that are read as this: those of the document, for every reading of its
-- licence fields by the profile; bytes that spell no document have none
abbrev pub Finds : Profile → Result DocumentText DocFault → List Finding → Type 0
Finds profile (Ok d) found = (reads : List ℕ → Option Tree) → IsReading profile reads
    → AreFindings reads d found
Finds profile (Err f) found = found ≡ []
