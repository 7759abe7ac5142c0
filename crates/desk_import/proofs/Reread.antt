-- What is written for a document is read as what it says.
use Rattle.std.proofs.Common.{◌≡◌, ◌∙◌, ◌≤◌, ℕ, List, [], Some, None, Option, Result, Ok, length, refl, sym, ap, subst, arith}
use Rattle.std.specs.Prelude.{All, IsUtf8}
use Rattle.std.specs.String.{string_bytes}
use Rattle.std.proofs.lemmas.Str.{IsUtf8-string_bytes}
use Rattle.serde_json.specs.Data.{Data}
use Rattle.desk_base.specs.Limits.{document_bytes}
use Rattle.desk_fields.specs.declared.fault.DocFault.{DocFault}
use Rattle.desk_tagvalue.specs.Documents.{Spells, judged, fields, no_fields, no_text, too_large, unless}
use Rattle.desk_tagvalue.specs.Drafts.{LineText, text_of_lines}
use Rattle.desk_tagvalue.specs.Faults.{first_fault, first_of}
use Rattle.desk_tagvalue.specs.Missing.{missing_of}
use Rattle.desk_tagvalue.specs.Parts.{DocumentText, document_of}
use Rattle.desk_tagvalue.specs.Written.{Stands, fields_of_lines}
use Rattle.desk_tagvalue.proofs.LinesReread.{lines_again}
use Rattle.desk_tagvalue.proofs.ReadLemmas.{spells_once}
use Rattle.desk_fields.specs.Cutting.{Reads}
use Rattle.desk_spdx_files.specs.declared.idle.Files.{Files}
use Rattle.desk_spdx_files.specs.declared.idle.Files.TheVariants as files
use Rattle.desk_spdx_json.specs.Documents.{document_steps}
use Rattle.desk_import.specs.Results.{IsConverted, json_of, steps_of}
use Rattle.desk_spdx_json.specs.Steps.{lines_of}
use Rattle.desk_import.specs.Said.{AreDistinct, DocumentSaid, IsNormal, IsSaid, document_lines, document_object}
use Rattle.desk_import.specs.Said.{element_ids, entries_of, fields_in}
use Rattle.desk_import.specs.declared.converting.Converted.{Converted}
use Rattle.desk_import.proofs.ResultLemmas.{all_stand, fields_again, unmarked}
use Rattle.desk_import.proofs.SaidLines.{lines_said}
use Rattle.desk_import.proofs.SaidSteps.{document_lined}

pub conversion_read : (wanted : Files) (bytes : List ℕ) (c : Converted)
    → IsConverted wanted bytes c
    → length (string_bytes c.text) ≤ document_bytes → (d : Data) × (json_of bytes ≡ Some d)
    × Spells (string_bytes c.text) (judged (entries_of (steps_of wanted d)))
conversion_read wanted bytes c is small =
    let steps = steps_of wanted is.1 in (
      is.1,
      is.2,
      fields (string_bytes c.text) (fields_of_lines 1 (lines_of steps)) small
          (IsUtf8-string_bytes c.text)
          (fields_again steps (string_bytes c.text) is.3.text is.3.pass),
    )

-- the text of lines that are each read back spells what their fields are
text_spells : (lines : List LineText) → All Stands lines
    → length (text_of_lines lines) ≤ document_bytes → IsUtf8 (text_of_lines lines)
    → Spells (text_of_lines lines) (judged (fields_in lines))
text_spells lines stand small utf8 =
    fields (text_of_lines lines) (fields_of_lines 1 lines) small utf8
    (subst (λ t. Reads 1 t (Ok (fields_of_lines 1 lines))) (sym (unmarked lines))
    (lines_again lines stand 1 (omega arith)))

-- what spells a document is short enough, and UTF-8
are_text : (bytes : List ℕ) (r : Result DocumentText DocFault) → Spells bytes r
    → (x : DocumentText) → r ≡ Ok x → (length bytes ≤ document_bytes) × IsUtf8 bytes
are_text bytes r (too_large _ big) x is = absurd cc
are_text bytes r (no_text _ small not_utf8) x is = absurd cc
are_text bytes r (no_fields _ fault small utf8 reads) x is = absurd cc
are_text bytes r (fields _ fs small utf8 reads) x is = (small, utf8)

without_fault : (o : Option DocFault) (y x : DocumentText) → Ok x ≡ unless o y → x ≡ y
without_fault None y x is = cc
without_fault (Some fault) y x is = absurd cc

pub read_back : (d : DocumentSaid) (x : DocumentText) → IsNormal d → All Stands (document_lines d)
    → Spells (text_of_lines (document_lines d)) (Ok x) → IsSaid d x
read_back d x n stand spells =
    let text = text_of_lines (document_lines d) in
    let es = fields_in (document_lines d) in
    let both = are_text text (Ok x) spells x refl in
    let once : Ok x ≡ judged es = spells_once text (Ok x) (judged es) spells
    (text_spells (document_lines d) stand both.0 both.1) in
    subst (IsSaid d) (sym (without_fault (first_of (first_fault [] es) (missing_of es))
    (document_of es) x once)) (lines_said d n)

pub document_said : (d : DocumentSaid) → IsNormal d → AreDistinct (element_ids d)
    → IsSaid d (document_of (entries_of (document_steps (document_object d))))
document_said d n distinct = subst (λ lines. IsSaid d (document_of (fields_in lines)))
    (sym (document_lined d n distinct)) (lines_said d n)

value_in : (o : Option Data) (a b : Data) → o ≡ Some a → o ≡ Some b → a ≡ b
value_in o a b is also = let both : Some a ≡ Some b = sym is ∙ also in cc

pub conversion_said : (bytes : List ℕ) (c : Converted) (d : DocumentSaid) (x : DocumentText)
    → IsNormal d → AreDistinct (element_ids d) → json_of bytes ≡ Some (document_object d)
    → IsConverted files.All bytes c
    → Spells (string_bytes c.text) (Ok x) → IsSaid d x
conversion_said bytes c d x n distinct is converted spells =
    let made = converted.3 in
    let lines : lines_of (steps_of files.All converted.1) ≡ document_lines d =
    ap (λ v. lines_of (steps_of files.All v))
    (value_in (json_of bytes) converted.1 (document_object d) converted.2 is)
    ∙ document_lined d n distinct in
    let text : string_bytes c.text ≡ text_of_lines (document_lines d) =
    made.text ∙ ap text_of_lines lines in
    read_back d x n (subst (All Stands) lines (all_stand (steps_of files.All converted.1) made.pass))
    (subst (λ t. Spells t (Ok x)) text spells)
