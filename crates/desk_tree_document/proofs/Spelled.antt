-- What a draft's text spells is the document of the draft's fields.
use Rattle.std.proofs.Common.{◌≡◌, ◌∙◌, ℕ, List, [], ap, refl, Option, Some, None, Result, Ok}
use Rattle.std.specs.Prelude.{map}
use Rattle.desk_fields.specs.declared.fault.DocFault.{DocFault}
use Rattle.desk_fields.specs.Cutting.{FieldText, Reads, behind_mark}
use Rattle.desk_fields.proofs.OneReading.{reads_once}
use Rattle.desk_tagvalue.specs.declared.drafts.Draft.{Draft}
use Rattle.desk_tagvalue.specs.Documents.{Spells, too_large, no_text, no_fields, fields, unless}
use Rattle.desk_tagvalue.specs.Drafts.{draft_lines}
use Rattle.desk_tagvalue.specs.Entries.{EntryText, read_entry}
use Rattle.desk_tagvalue.specs.Faults.{first_fault, first_of}
use Rattle.desk_tagvalue.specs.Missing.{missing_of}
use Rattle.desk_tagvalue.specs.Parts.{DocumentText, document_of}
use Rattle.desk_tagvalue.specs.Written.{Adds, fields_of_lines}
use Rattle.desk_tagvalue.proofs.DraftEntries.{AreFileEntries, Places, head_entries, entries_of_draft}
use Rattle.desk_tagvalue.proofs.LinesReread.{draft_again}

without_fault : (o : Option DocFault) (y x : DocumentText) → unless o y ≡ Ok x → x ≡ y
without_fault None y x is = cc
without_fault (Some fault) y x is = absurd cc

fields_spelled : (text : List ℕ) (r : Result DocumentText DocFault) → Spells text r
    → (x : DocumentText) → r ≡ Ok x
    → (fs : List FieldText) × Reads 1 (behind_mark text) (Ok fs)
    × (x ≡ document_of (map read_entry fs))
fields_spelled text r (too_large bytes big) x is = absurd cc
fields_spelled text r (no_text bytes small not_utf8) x is = absurd cc
fields_spelled text r (no_fields bytes fault small utf8 reads) x is = absurd cc
fields_spelled text r (fields bytes fs small utf8 reads) x is =
    let es = map read_entry fs in
    (fs, reads, without_fault (first_of (first_fault [] es) (missing_of es)) (document_of es) x is)

pub document_spelled : (d : Draft) (text : List ℕ) (x : DocumentText) → Adds [] (draft_lines d) text
    → Spells text (Ok x)
    → (p : Places) × (rest : List EntryText) × (x ≡ document_of (head_entries d p rest))
    × AreFileEntries 1 d.files rest
document_spelled d text x adds spells =
    let read = fields_spelled text (Ok x) spells x refl in
    let w = entries_of_draft d in
    let lines = fields_of_lines 1 (draft_lines d) in
    let once = reads_once 1 (behind_mark text) (Ok read.0) (Ok lines) read.1
    (draft_again d text adds) in
    let fs : read.0 ≡ lines = cc in
    (w.0, w.1, read.2 ∙ ap (λ l. document_of (map read_entry l)) fs ∙ ap document_of w.2, w.3)
