-- Bytes spell a document, or have a fault.
use Rattle.std.proofs.Common.{◌∙◌, ℕ, ◌≤◌, List, length, sym, inl, inr, IsUtf8}
use Rattle.std.specs.Prelude.{Result, Ok, Err, map}
use Rattle.std.specs.Str.{is_utf8}
use Rattle.std.proofs.lemmas.Bool.{cases_Bool, cases_lt, true≢false}
use Rattle.std.proofs.lemmas.Str.{IsUtf8-from_is_utf8, is_utf8-from_IsUtf8}
use Rattle.desk_fields.specs.declared.fault.DocFault.{DocFault}
use Rattle.desk_fields.specs.declared.fault.DocFault.TheVariants as faults
use Rattle.desk_fields.specs.Cutting.{Reads, FieldText, behind_mark}
use Rattle.desk_tagvalue.specs.Entries.{read_entry}
use Rattle.desk_tagvalue.specs.Parts.{DocumentText}
use Rattle.desk_base.specs.Limits.{document_bytes}
use Rattle.desk_tagvalue.specs.Documents.{judged, Spells, too_large, no_text, no_fields, fields}
use Rattle.desk_findings.proofs.EachText.{each_text}

abbrev pub Spelling : List ℕ → Type 0
Spelling bytes = (r : Result DocumentText DocFault) × Spells bytes r

spelled : (bytes : List ℕ) (r : Result (List FieldText) DocFault) → length bytes ≤ document_bytes
    → IsUtf8 bytes → Reads 1 (behind_mark bytes) r → Spelling bytes
spelled bytes (Ok fs) small utf8 reads = (
  judged (map read_entry fs),
  fields bytes fs small utf8 reads,
)
spelled bytes (Err fault) small utf8 reads = (Err fault, no_fields bytes fault small utf8 reads)

spelled_small : (bytes : List ℕ) → length bytes ≤ document_bytes → Spelling bytes
spelled_small bytes small =
    elim (cases_Bool (is_utf8 bytes)) [
      | inl is ↦ let r = each_text 1 (behind_mark bytes) in
          spelled bytes r.0 small (IsUtf8-from_is_utf8 bytes is) r.1
      | inr is ↦ (
        Err faults.NotUtf8,
        no_text bytes small (λ utf8. true≢false (sym (is_utf8-from_IsUtf8 bytes utf8) ∙ is)),
      )
    ]

pub each_document : (bytes : List ℕ) → Spelling bytes
each_document bytes =
    elim (cases_lt document_bytes (length bytes)) [
      | inl large ↦ (Err faults.TooLarge, too_large bytes large)
      | inr small ↦ spelled_small bytes small
    ]
