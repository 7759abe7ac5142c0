-- The text that steps give, and how they pass or fail.
use Rattle.std.specs.Prelude.{◌≡◌, ◌⊎◌, ◌==◌, ◌<◌, ◌≤◌, ℕ, Bool, false, List, ◌∷◌, ◌++◌, All}
use Rattle.std.specs.Prelude.{Option, Some, None, Ok, count_by, length, if◌then◌else◌}
use Rattle.std.specs.Str.{is_utf8}
use Rattle.std.specs.String.{string_bytes}
use Rattle.serde_json.specs.Data.{Data}
use Rattle.serde_json.specs.Read.{read}
use Rattle.desk_tagvalue.specs.Drafts.{text_of_lines}
use Rattle.desk_tagvalue.specs.Written.{Stands, fields_of_lines}
use Rattle.desk_fields.specs.Cutting.{Reads, behind_mark}
use Rattle.desk_spdx_json.specs.declared.steps.Kind.{Kind}
use Rattle.desk_spdx_json.specs.declared.steps.Kind.TheVariants as kinds
use Rattle.desk_import.specs.declared.faults.ConvertFault.{ConvertFault}
use Rattle.desk_import.specs.declared.faults.ConvertFault.TheVariants as faults
use Rattle.desk_import.specs.declared.converting.Skipped.{Skipped}
use Rattle.desk_import.specs.declared.converting.Converted.{Converted}
use Rattle.desk_spdx_json.specs.Steps.{StepText, WhatText, put, left_out, missing, bad_type, bad_value}
use Rattle.desk_spdx_json.specs.Steps.{differs, lines_of}
use Rattle.desk_cyclonedx.specs.Boms.{bom_steps, is_bom}
use Rattle.desk_spdx_files.specs.declared.idle.Files.{Files}
use Rattle.desk_spdx_files.specs.declared.idle.Files.TheVariants as files
use Rattle.desk_spdx_json.specs.Files.{steps_with}

-- a step passes: its line is read back from its text, or something is left out
abbrev pub Goes : WhatText → Type 0
Goes (put line) = Stands line
Goes (left_out kind) = Unit {0}
Goes _ = ⊥

-- a step that doesn't stop the conversion
abbrev pub Passes : StepText → Type 0
Passes s = Goes s.what

-- a step fails, with a fault that names its place
abbrev pub FailsAt : List ℕ → WhatText → ConvertFault → Type 0
FailsAt at (put line) fault = (fault ≡ faults.BadValue at) × (Stands line → ⊥)
FailsAt at (left_out kind) fault = ⊥
FailsAt at missing fault = fault ≡ faults.Missing at
FailsAt at bad_type fault = fault ≡ faults.BadType at
FailsAt at bad_value fault = fault ≡ faults.BadValue at
FailsAt at (differs first) fault = fault ≡ faults.Differs at first

-- a step that stops the conversion with this fault
abbrev pub Fails : StepText → ConvertFault → Type 0
Fails s fault = FailsAt s.at s.what fault

-- the first step that doesn't pass
pub record FailsFirst (steps : List StepText) (fault : ConvertFault) : Type 0 where
  pub front : List StepText
  pub failing : StepText
  pub back : List StepText
  pub are : steps ≡ front ++ failing ∷ back
  pub pass : All Passes front
  pub fails : Fails failing fault

-- each of some steps passes, and their lines were added to a text
pub record IsPut (old : List ℕ) (steps : List StepText) (new : List ℕ) : Type 0 where
  pub text : new ≡ old ++ text_of_lines (lines_of steps)
  pub pass : All Passes steps

-- they weren't: no memory was left, or some step fails
abbrev pub IsStopped : List StepText → ConvertFault → Type 0
IsStopped steps fault = (fault ≡ faults.Memory) ⊎ FailsFirst steps fault

-- ---- what is left out, by its kind

-- a number for each kind, to compare them by
abbrev pub kind_number : Kind → ℕ
kind_number kinds.ExternalDocument = 1
kind_number kinds.Annotation = 2
kind_number kinds.ExternalReference = 3
kind_number kinds.Field = 4
kind_number kinds.File = 5

-- something of this kind is left out
abbrev pub is_of_kind : Kind → WhatText → Bool
is_of_kind kind (left_out other) = kind_number kind == kind_number other
is_of_kind kind _ = false

-- the step leaves out something of this kind
abbrev pub is_left : Kind → StepText → Bool
is_left kind s = is_of_kind kind s.what

-- how many steps leave out something of this kind
abbrev pub count_left : Kind → List StepText → ℕ
count_left kind steps = count_by (is_left kind) steps

-- how many files are left out, if that is asked for
abbrev pub files_left : Files → List StepText → Option ℕ
files_left files.All steps = None
files_left files.Needed steps = Some (count_left kinds.File steps)

-- how much is left out, by kind
abbrev pub skipped_of : Files → List StepText → Skipped
skipped_of wanted steps = record {
  external_documents = count_left kinds.ExternalDocument steps;
  annotations = count_left kinds.Annotation steps;
  external_references = count_left kinds.ExternalReference steps;
  fields = count_left kinds.Field steps;
  files = files_left wanted steps;
}

-- ---- the whole

-- the bytes of the longest document in JSON that is converted
abbrev pub json_bytes : ℕ
json_bytes = 67108864

-- the value whose JSON text the bytes are (RFC 8259)
abbrev pub json_in : List ℕ → Option Data
json_in bytes = if is_utf8 bytes then read bytes else None

-- the same, if a byte order mark at the start is skipped (RFC 8259, section 8.1)
abbrev pub json_of : List ℕ → Option Data
json_of bytes = json_in (behind_mark bytes)

-- the bytes are the JSON text of a value, within the limit
abbrev pub IsJson : List ℕ → Data → Type 0
IsJson bytes d = (length bytes ≤ json_bytes) × (json_of bytes ≡ Some d)

-- the steps of a document with these files, by its form: CycloneDX, which lists no files, or else
-- SPDX
abbrev pub steps_of : Files → Data → List StepText
steps_of wanted d = if is_bom d then bom_steps d else steps_with wanted d

-- the text of all lines, and how much is left out; no step fails
pub record IsOf (wanted : Files) (steps : List StepText) (c : Converted) : Type 0 where
  pub text : string_bytes c.text ≡ text_of_lines (lines_of steps)
  pub pass : All Passes steps
  pub skipped : c.skipped ≡ skipped_of wanted steps

-- the bytes are JSON within the limit, and its steps give the text
abbrev pub IsConverted : Files → List ℕ → Converted → Type 0
IsConverted wanted bytes c = (length bytes ≤ json_bytes) × (d : Data) × (json_of bytes ≡ Some d)
    × IsOf wanted (steps_of wanted d) c

-- the text is read as the fields of the lines, in order, and as no others
abbrev pub AreFields : Files → List ℕ → List ℕ → Type 0
AreFields wanted bytes text = (d : Data) × (json_of bytes ≡ Some d)
    × Reads 1 (behind_mark text) (Ok (fields_of_lines 1 (lines_of (steps_of wanted d))))

-- the bytes are too many, or no JSON
abbrev pub IsUnread : List ℕ → ConvertFault → Type 0
IsUnread bytes faults.TooLarge = json_bytes < length bytes
IsUnread bytes faults.NotJson = (length bytes ≤ json_bytes) × (json_of bytes ≡ None)
IsUnread bytes fault = ⊥

-- the bytes are too many, or no JSON, or some step of the document fails
abbrev pub IsRefused : Files → List ℕ → ConvertFault → Type 0
IsRefused wanted bytes faults.Memory = ⊥
IsRefused wanted bytes faults.TooLarge = json_bytes < length bytes
IsRefused wanted bytes faults.NotJson = (length bytes ≤ json_bytes) × (json_of bytes ≡ None)
IsRefused wanted bytes fault = (length bytes ≤ json_bytes) × (d : Data)
    × (json_of bytes ≡ Some d) × FailsFirst (steps_of wanted d) fault
