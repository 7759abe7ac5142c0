-- The document that bytes spell, or the fault for which they aren't one.
use Rattle.std.specs.Prelude.{ℕ, ◌<◌, ◌≤◌, List, [], length, map, Option, Some, None, Result, Ok, Err, IsUtf8}
use Rattle.desk_base.specs.Limits.{document_bytes}
use Rattle.desk_fields.specs.declared.fault.DocFault.{DocFault}
use Rattle.desk_fields.specs.declared.fault.DocFault.TheVariants as faults
use Rattle.desk_fields.specs.Cutting.{Reads, FieldText, behind_mark}
use Rattle.desk_tagvalue.specs.declared.reading.Document.{Document}
use Rattle.desk_tagvalue.specs.Entries.{EntryText, entry_text, read_entry}
use Rattle.desk_tagvalue.specs.Faults.{first_fault, first_of}
use Rattle.desk_tagvalue.specs.Missing.{missing_of}
use Rattle.desk_tagvalue.specs.Parts.{DocumentText, document_of}
use Rattle.desk_tagvalue.specs.Views.{package_text, file_text, snippet_text, extracted_text, edge_text}

-- a document, apart from where it is in memory
abbrev pub document_text : Document → DocumentText
document_text d = record {
  entries = map entry_text d.entries;
  name = d.name.now;
  namespace = d.namespace.now;
  packages = map package_text d.packages;
  files = map file_text d.files;
  snippets = map snippet_text d.snippets;
  extracted = map extracted_text d.extracted;
  edges = map edge_text d.edges;
}

-- the document, or its fault if it has one
abbrev pub unless : Option DocFault → DocumentText → Result DocumentText DocFault
unless None d = Ok d
unless (Some fault) d = Err fault

-- the fields are a document; or they have the fault of the first that fails, or else of the first
-- that is missing
abbrev pub judged : List EntryText → Result DocumentText DocFault
judged es = unless (first_of (first_fault [] es) (missing_of es)) (document_of es)

-- too many bytes; no UTF-8; no fields; or what the fields are
pub data Spells : List ℕ → Result DocumentText DocFault → Type 0 where
  too_large : (bytes : List ℕ) → document_bytes < length bytes → Spells bytes (Err faults.TooLarge)
  no_text : (bytes : List ℕ) → length bytes ≤ document_bytes → (IsUtf8 bytes → ⊥)
      → Spells bytes (Err faults.NotUtf8)
  no_fields : (bytes : List ℕ) (fault : DocFault) → length bytes ≤ document_bytes → IsUtf8 bytes
      → Reads 1 (behind_mark bytes) (Err fault) → Spells bytes (Err fault)
  fields : (bytes : List ℕ) (fs : List FieldText) → length bytes ≤ document_bytes → IsUtf8 bytes
      → Reads 1 (behind_mark bytes) (Ok fs) → Spells bytes (judged (map read_entry fs))
