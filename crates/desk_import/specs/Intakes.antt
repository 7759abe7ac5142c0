-- What is imported of the bytes of a file.
use Rattle.std.specs.Prelude.{◌≡◌, ℕ, List, [], map, Option, Some, None, Result, Ok, Err, IfOk}
use Rattle.std.specs.Prelude.{IfSome}
use Rattle.std.specs.declared.alloc.AllocError.{AllocError}
use Rattle.std.specs.String.{string_bytes}
use Rattle.serde_json.specs.Data.{Data}
use Rattle.desk_expr.specs.Tree.{Tree}
use Rattle.desk_fields.specs.declared.fault.DocFault.{DocFault}
use Rattle.desk_tagvalue.specs.Documents.{Spells}
use Rattle.desk_tagvalue.specs.Parts.{DocumentText}
use Rattle.desk_looks.specs.Looks.{look_of}
use Rattle.desk_spdx_files.specs.declared.idle.Files.{Files}
use Rattle.desk_spdx_json.specs.Steps.{StepText}
use Rattle.desk_import.specs.Placed.{placed, placed_text}
use Rattle.desk_import.specs.Results.{IsConverted, IsOf, IsRefused, json_of, steps_of}
use Rattle.desk_import.specs.Summaries.{IsSummary}
use Rattle.desk_import.specs.declared.converting.Converted.{Converted}
use Rattle.desk_import.specs.declared.intake.Origin.{Origin}
use Rattle.desk_import.specs.declared.intake.Origin.TheVariants.{TagValue, Json, Neither}
use Rattle.desk_import.specs.declared.summary.Summary.{Summary}

-- the bytes spell a tag-value document, or none
abbrev pub IsDocument : List ℕ → Type 0
IsDocument bytes = (d : DocumentText) × Spells bytes (Ok d)

-- the bytes have a fault as a tag-value document
abbrev pub IsNoDocument : List ℕ → Type 0
IsNoDocument bytes = (fault : DocFault) × Spells bytes (Err fault)

-- a tag-value document is imported as it is, whatever its bytes are as JSON; what is none, as the
-- tag-value document that it converts to; and what is neither, as it is, so that it is refused,
-- with what it looks like
abbrev pub Takes : Files → List ℕ → List ℕ → Origin → Type 0
Takes wanted bytes taken TagValue = IsDocument bytes × (taken ≡ bytes)
Takes wanted bytes taken (Json skipped) = IsNoDocument bytes × (c : Converted)
    × IsConverted wanted bytes c × (taken ≡ string_bytes c.text) × (skipped ≡ c.skipped)
Takes wanted bytes taken (Neither fault look) = IsNoDocument bytes × IsRefused wanted bytes fault
    × (look ≡ look_of bytes) × (taken ≡ bytes)

-- the summary of the document that bytes spell, unless no memory was left for it; no summary if
-- they spell none
abbrev pub IsFound : (List ℕ → Option Tree) → List ℕ → Option (Result Summary AllocError) → Type 0
IsFound reads taken None = IsNoDocument taken
IsFound reads taken (Some found) = (d : DocumentText) × Spells taken (Ok d)
    × IfOk found (IsSummary reads d)

-- what the steps of a document in JSON write is imported
abbrev pub TakesSteps : Files → List StepText → List ℕ → Origin → Type 0
TakesSteps wanted steps taken (Json skipped) = (c : Converted) × IsOf wanted steps c
    × (taken ≡ string_bytes c.text) × (skipped ≡ c.skipped)
TakesSteps wanted steps taken _ = ⊥

-- a summary, if there is one, lists its findings with the places of the steps that wrote their lines
abbrev pub AreListed : List StepText → Option (Result Summary AllocError) → Type 0
AreListed steps found = IfSome found (λ made. IfOk made
    (λ s. string_bytes s.listed ≡ placed_text (map (placed steps) s.findings.items)))

-- a summary, if there is one, lists no findings
abbrev pub IsUnlisted : Option (Result Summary AllocError) → Type 0
IsUnlisted found = IfSome found (λ made. IfOk made (λ s. string_bytes s.listed ≡ []))

-- the findings of a document in JSON are listed with their places in it, and those of a tag-value
-- document aren't
abbrev pub Lists : Files → List ℕ → Origin → Option (Result Summary AllocError) → Type 0
Lists wanted bytes (Json skipped) found = (d : Data) × (json_of bytes ≡ Some d)
    × AreListed (steps_of wanted d) found
Lists wanted bytes _ found = IsUnlisted found
