-- What can be written: a value that is read back from its field, when that is printed alone.
use Rattle.std.specs.Prelude.{◌≡◌, ◌⊎◌, ◌==◌, ◌+◌, ℕ, List, [], ◌∷◌, ◌++◌, Ok, Some, All, codes, count_by}
use Rattle.hex.specs.Hex.{encode_lower}
use Rattle.desk_fields.specs.Tags.{tag_name}
use Rattle.desk_fields.specs.Cutting.{Reads, FieldText}
use Rattle.desk_tagvalue.specs.declared.writing.WriteFault.{WriteFault}
use Rattle.desk_tagvalue.specs.declared.writing.WriteFault.TheVariants as faults
use Rattle.desk_tagvalue.specs.declared.drafts.DraftFile.{DraftFile}
use Rattle.desk_tagvalue.specs.Drafts.{LineText, blank, one_line, in_text, spelled, text_of_lines}
use Rattle.desk_tagvalue.specs.Parts.{sha1_digits}

-- a field of this line, tag and value
abbrev pub field_at : ℕ → List ℕ → List ℕ → FieldText
field_at line tag value = record { line = line; tag = tag; value = value }

-- the line's field is read back
abbrev pub Stands : LineText → Type 0
Stands blank = Unit {0}
Stands (one_line tag value) = Reads 1 (spelled (one_line tag value))
    (Ok (field_at 1 (tag_name tag) value ∷ []))
Stands (in_text tag value) = Reads 1 (spelled (in_text tag value))
    (Ok (field_at 1 (tag_name tag) value ∷ []))

-- lines were added to a text
pub record Adds (old : List ℕ) (ls : List LineText) (new : List ℕ) : Type 0 where
  pub text : new ≡ old ++ text_of_lines ls
  pub stand : All Stands ls

-- lines weren't added: memory ran out, or not each of them is read back
abbrev pub IsStopped : List LineText → WriteFault → Type 0
IsStopped ls e = (e ≡ faults.Memory) ⊎ ((e ≡ faults.BadValue) × (All Stands ls → ⊥))

-- the digits of a file's digest are read back from its checksum
abbrev pub IsDigestRead : DraftFile → Type 0
IsDigestRead f = sha1_digits (codes "SHA1: " ++ encode_lower f.digest)
    ≡ Some (encode_lower f.digest)

-- how many line feeds a text has
abbrev pub feeds : List ℕ → ℕ
feeds text = count_by (λ b. b == 10) text

-- the field of a line, followed by others
abbrev pub onto_line : ℕ → LineText → List FieldText → List FieldText
onto_line n blank fs = fs
onto_line n (one_line tag value) fs = field_at n (tag_name tag) value ∷ fs
onto_line n (in_text tag value) fs = field_at n (tag_name tag) value ∷ fs

-- the fields of some lines, the first of which is line n
abbrev pub fields_of_lines : ℕ → List LineText → List FieldText
fields_of_lines n [] = []
fields_of_lines n (l ∷ ls) = onto_line n l (fields_of_lines (n + feeds (spelled l)) ls)

-- 0 if there was no memory
abbrev pub write_fault_number : WriteFault → ℕ
write_fault_number faults.Memory = 0
write_fault_number faults.BadValue = 1
