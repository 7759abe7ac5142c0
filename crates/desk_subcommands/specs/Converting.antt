-- What `convert` writes, and what is reported of a document in JSON.
use Rattle.std.specs.Prelude.{◌≡◌, ◌⊎◌, ◌++◌, ◌∷◌, [], ℕ, Bool, List, Option, Some, None, codes, decimal}
use Rattle.std.specs.String.{string_bytes}
use Rattle.desk_looks.specs.Words.{look_line}
use Rattle.desk_looks.specs.declared.look.Look.{Look}
use Rattle.desk_spdx_files.specs.declared.idle.Files.{Files}
use Rattle.desk_import.specs.Results.{IsConverted, IsRefused}
use Rattle.desk_import.specs.declared.converting.Converted.{Converted}
use Rattle.desk_import.specs.declared.converting.Skipped.{Skipped}
use Rattle.desk_import.specs.declared.faults.ConvertFault.{ConvertFault}
use Rattle.desk_import.specs.declared.faults.ConvertFault.TheVariants.{Memory, TooLarge, NotJson}
use Rattle.desk_import.specs.declared.faults.ConvertFault.TheVariants.{Missing, BadType, BadValue, Differs}
use Rattle.desk_import.specs.declared.intake.Origin.{Origin}
use Rattle.desk_import.specs.declared.intake.Origin.TheVariants.{TagValue, Json, Neither}
use Rattle.desk_report.specs.Terminal.{text_on}

-- the name of a fault, and where in the document it is
abbrev pub fault_words : ConvertFault → List ℕ
fault_words Memory = codes "Memory"
fault_words TooLarge = codes "TooLarge"
fault_words NotJson = codes "NotJson"
fault_words (Missing at) = codes "Missing at " ++ at
fault_words (BadType at) = codes "BadType at " ++ at
fault_words (BadValue at) = codes "BadValue at " ++ at
fault_words (Differs at first) = codes "Differs at " ++ (at ++ (codes " from " ++ first))

-- the line that reports it
abbrev pub convert_fault_line : ConvertFault → List ℕ
convert_fault_line fault = (codes "fault: " ++ fault_words fault) ++ 10 ∷ []

-- how many files are left out, if that is asked for
abbrev pub left_out_files : Option ℕ → List ℕ
left_out_files None = []
left_out_files (Some count) = codes ", " ++ (decimal count ++ codes " files")

-- how much else is left out
abbrev pub left_out_rest : Skipped → List ℕ
left_out_rest s =
    decimal s.annotations ++ (codes " annotations, "
    ++ (decimal s.external_references ++ (codes " external references, "
    ++ (decimal s.external_documents ++ (codes " references to documents, "
    ++ (decimal s.fields ++ codes " other fields"))))))

-- the line of what is left out
abbrev pub left_out_line : Skipped → List ℕ
left_out_line s = codes "left out: " ++ (left_out_rest s ++ (left_out_files s.files ++ codes "\n"))

-- the converted document, on a terminal as it shows it, or the line of the fault, and the program's
-- status
abbrev pub Converts : Files → List ℕ → Bool → List ℕ → ℕ → Type 0
Converts files bytes is_terminal text status =
    ((c : Converted) × IsConverted files bytes c
    × (text ≡ text_on is_terminal (string_bytes c.text)) × (status ≡ 0))
    ⊎ ((fault : ConvertFault) × IsRefused files bytes fault × (text ≡ convert_fault_line fault)
    × (status ≡ 1))

-- the lines on bytes that are neither: why they are no document in JSON, and what they look like
abbrev pub neither_text : ConvertFault → Option Look → List ℕ
neither_text fault look =
    codes "nor is it a document in JSON: " ++ (fault_words fault ++ 10 ∷ look_line look)

-- the lines on what a file is whose bytes are imported: nothing of a tag-value document, what is
-- left out of one in JSON, and what other bytes are
abbrev pub origin_text : Origin → List ℕ
origin_text TagValue = []
origin_text (Json skipped) = left_out_line skipped
origin_text (Neither fault look) = neither_text fault look
