-- What is reported about a document: the findings of its bytes, by the profile of operators that it
-- was imported with.
use Rattle.std.specs.Prelude.{ℕ, List, Option, Some, None}
use Rattle.desk_base.specs.declared.profile.Profile.{Profile}
use Rattle.desk_model.specs.Readings.{Readings}
use Rattle.desk_model.specs.declared.row.DocumentRow.{DocumentRow}
use Rattle.desk_model.specs.declared.refusal.Refusal.TheVariants.{UnknownDocument}
use Rattle.desk_model.specs.declared.command.Answer.{Answer}
use Rattle.desk_model.specs.declared.command.Answer.TheVariants as answered

-- the bytes of a document, and its profile
abbrev pub source_of : DocumentRow → List ℕ × Profile
source_of row = (row.bytes, row.profile)

-- Findings, of the document that was looked up
abbrev pub findings_answer : Readings → Option DocumentRow → Answer
findings_answer w None = answered.Refused UnknownDocument
findings_answer w (Some row) = answered.Findings (w.findings row.profile row.bytes)
