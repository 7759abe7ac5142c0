-- What a document that a desk holds is, by its own profile.
use Rattle.std.specs.Prelude.{◌≡◌, ℕ, pos, List, Option, Some, None, Ok, Err, find}
use Rattle.desk_base.specs.declared.profile.Profile.{Profile}
use Rattle.desk_expr.specs.Tree.{Tree}
use Rattle.desk_fields.specs.declared.fault.DocFault.{DocFault}
use Rattle.desk_import.specs.Summaries.{IsSummary}
use Rattle.desk_import.specs.declared.summary.Summary.{Summary}
use Rattle.desk_snapshot.specs.Conditions.{profile_at}
use Rattle.desk_snapshot.specs.declared.rows.StoredDocument.{StoredDocument}
use Rattle.desk_snapshot.specs.declared.snapshot.Snapshot.{Snapshot}
use Rattle.desk_tagvalue.specs.Documents.{Spells}
use Rattle.desk_tagvalue.specs.Parts.{DocumentText}
use Rattle.desk_views.specs.Proposing.{is_document}
use Rattle.desk_inspect.specs.declared.held.HeldDocument.{HeldDocument}

-- the summary of the document that bytes spell; none if they spell none
abbrev pub IsSummaryIn : (List ℕ → Option Tree) → List ℕ → Option Summary → Type 0
IsSummaryIn reads bytes None = (fault : DocFault) × Spells bytes (Err fault)
IsSummaryIn reads bytes (Some summary) = (d : DocumentText) × Spells bytes (Ok d)
    × IsSummary reads d summary

-- what the document of a row is: the profile, and its summary; nothing without a row
abbrev pub IsHeldIn : (List ℕ → Option Tree) → Profile → Option StoredDocument
    → Option HeldDocument → Type 0
IsHeldIn reads profile None found = found ≡ None
IsHeldIn reads profile (Some row) None = IsSummaryIn reads row.bytes None
IsHeldIn reads profile (Some row) (Some held) = (held.profile ≡ profile)
    × IsSummaryIn reads row.bytes (Some held.summary)

-- the same of the document with this number
abbrev pub IsHeld : (List ℕ → Option Tree) → Snapshot → ℕ → Option HeldDocument → Type 0
IsHeld reads s number found =
    IsHeldIn reads (profile_at s (pos number)) (find (is_document number) s.document) found
