-- Bytes spell only one document.
use Rattle.std.proofs.Common.{◌≡◌, ◌∙◌, ℕ, ◌<◌, ◌≤◌, List, [], ◌∷◌, ◌++◌, length, sym, subst, ap}
use Rattle.std.proofs.Common.{refl, arith, Bool, true, false, cond, Option, Some, None, Result, Ok}
use Rattle.std.proofs.Common.{Err, ◌⊎◌, inl, inr, IsUtf8}
use Rattle.std.specs.Prelude.{map, not, ◌&&◌, IfOk, IfErr}
use Rattle.desk_fields.specs.declared.tag.Tag.TheVariants as tags
use Rattle.desk_fields.specs.Tags.{same_tag}
use Rattle.desk_tagvalue.specs.Relationships.{is_relationship}
use Rattle.desk_fields.specs.declared.fault.DocFault.{DocFault}
use Rattle.desk_fields.specs.declared.fault.DocFault.TheVariants as faults
use Rattle.desk_fields.specs.Cutting.{Reads, done, more, fails, Fails, FieldText, behind_mark, with_piece, line_after}
use Rattle.desk_fields.specs.Pieces.{Piece}
use Rattle.desk_fields.proofs.OneReading.{reads_once}
use Rattle.std.proofs.lemmas.List.{map-append}
use Rattle.desk_tagvalue.specs.declared.entries.Entry.{Entry}
use Rattle.desk_tagvalue.specs.declared.reading.Document.{Document}
use Rattle.desk_tagvalue.specs.Entries.{EntryText, AreEntries, entry_text, read_entry}
use Rattle.desk_tagvalue.specs.Faults.{first_fault, first_of, field_fault, place_fault}
use Rattle.desk_tagvalue.specs.Faults.{double_fault, value_fault, is_too_many, is_again}
use Rattle.desk_tagvalue.specs.Faults.{is_misspelt, names, is_taken, is_version}
use Rattle.desk_tagvalue.specs.Missing.{missing_of, missing_of_document, missing_of_elements, is_absent, is_unnamed}
use Rattle.desk_tagvalue.specs.Parts.{DocumentText, document_of, head_of}
use Rattle.desk_base.specs.Limits.{document_bytes}
use Rattle.desk_tagvalue.specs.Documents.{document_text, judged, unless, Spells, too_large, no_text, no_fields, fields}

pub one_entry_more : (es : List Entry) (e : Entry) (fs : List FieldText) (f : FieldText)
    → map entry_text es ≡ map read_entry fs → entry_text e ≡ read_entry f
    → map entry_text (es ++ (e ∷ [])) ≡ map read_entry (fs ++ (f ∷ []))
one_entry_more es e fs f h k = map-append entry_text es (e ∷ []) ∙ (λ i. h i ++ (k i ∷ []))
    ∙ sym (map-append read_entry fs (f ∷ []))

-- bytes spell what the fields that were cut from them are judged to be
pub spells_judged : (bytes text : List ℕ) (es : List EntryText) (r : Result DocumentText DocFault)
    → length bytes ≤ document_bytes → IsUtf8 bytes → text ≡ bytes → AreEntries text es
    → judged es ≡ r → Spells bytes r
spells_judged bytes text es r small utf8 same h is =
    subst (Spells bytes) (ap judged (sym h.2) ∙ is)
    (fields bytes h.0 small utf8 (subst (λ t. Reads 1 (behind_mark t) (Ok h.0)) same h.1))

pub ok_from : (bytes : List ℕ) (es : List EntryText) (r : Result Document DocFault)
    → ((x : Result DocumentText DocFault) → judged es ≡ x → Spells bytes x)
    → IfOk r (λ d. judged es ≡ Ok (document_text d))
    → IfOk r (λ d. Spells bytes (Ok (document_text d)))
ok_from bytes es (Ok d) spells h = spells (Ok (document_text d)) h
ok_from bytes es (Err e) spells h = tt

pub err_from : (bytes : List ℕ) (es : List EntryText) (r : Result Document DocFault)
    → ((x : Result DocumentText DocFault) → judged es ≡ x → Spells bytes x)
    → IfErr r (λ e. (e ≡ faults.Memory) ⊎ (judged es ≡ Err e))
    → IfErr r (λ e. (e ≡ faults.Memory) ⊎ Spells bytes (Err e))
err_from bytes es (Ok d) spells h = tt
err_from bytes es (Err e) spells (inl h) = inl h
err_from bytes es (Err e) spells (inr h) = inr (spells (Err e) h)

pub err_cut : (bytes text : List ℕ) (f : DocFault) → length bytes ≤ document_bytes → IsUtf8 bytes
    → text ≡ bytes → (f ≡ faults.Memory) ⊎ Reads 1 (behind_mark text) (Err f)
    → (f ≡ faults.Memory) ⊎ Spells bytes (Err f)
err_cut bytes text f small utf8 same (inl h) = inl h
err_cut bytes text f small utf8 same (inr h) = inr (no_fields bytes f small utf8
    (subst (λ t. Reads 1 (behind_mark t) (Err f)) same h))

-- the ways in which bytes may spell something
data Ways (bytes : List ℕ) (r : Result DocumentText DocFault) : Type 0 where
  large : document_bytes < length bytes → r ≡ Err faults.TooLarge → Ways bytes r
  broken : length bytes ≤ document_bytes → (IsUtf8 bytes → ⊥) → r ≡ Err faults.NotUtf8
      → Ways bytes r
  uncut : (fault : DocFault) → length bytes ≤ document_bytes → IsUtf8 bytes
      → Reads 1 (behind_mark bytes) (Err fault) → r ≡ Err fault → Ways bytes r
  cut : (fs : List FieldText) → length bytes ≤ document_bytes → IsUtf8 bytes
      → Reads 1 (behind_mark bytes) (Ok fs) → r ≡ judged (map read_entry fs) → Ways bytes r

ways : (bytes : List ℕ) (r : Result DocumentText DocFault) → Spells bytes r → Ways bytes r
ways bytes r (too_large b h) = large h refl
ways bytes r (no_text b h k) = broken h k refl
ways bytes r (no_fields b f h k l) = uncut f h k l refl
ways bytes r (fields b fs h k l) = cut fs h k l refl

ok_or_err : (t : List ℕ) (fs : List FieldText) (f : DocFault) → Reads 1 t (Ok fs)
    → Reads 1 t (Err f) → ⊥
ok_or_err t fs f a b = let e = reads_once 1 t (Ok fs) (Err f) a b in cc

pub spells_once : (bytes : List ℕ) (a b : Result DocumentText DocFault) → Spells bytes a
    → Spells bytes b → a ≡ b
spells_once bytes a b (too_large n h) k =
    elim (ways bytes b k) [
      | large l e ↦ sym e
      | broken l u e ↦ absurd (omega arith)
      | uncut f l u r e ↦ absurd (omega arith)
      | cut fs l u r e ↦ absurd (omega arith)
    ]
spells_once bytes a b (no_text n h v) k =
    elim (ways bytes b k) [
      | large l e ↦ absurd (omega arith)
      | broken l u e ↦ sym e
      | uncut f l u r e ↦ absurd (v u)
      | cut fs l u r e ↦ absurd (v u)
    ]
spells_once bytes a b (no_fields n g h v s) k =
    elim (ways bytes b k) [
      | large l e ↦ absurd (omega arith)
      | broken l u e ↦ absurd (u v)
      | uncut f l u r e ↦ let same = reads_once 1 (behind_mark bytes) (Err g) (Err f) s r in
          let is : g ≡ f = cc in ap Err is ∙ sym e
      | cut fs l u r e ↦ absurd (ok_or_err (behind_mark bytes) fs g r s)
    ]
spells_once bytes a b (fields n gs h v s) k =
    elim (ways bytes b k) [
      | large l e ↦ absurd (omega arith)
      | broken l u e ↦ absurd (u v)
      | uncut f l u r e ↦ absurd (ok_or_err (behind_mark bytes) gs f s r)
      | cut fs l u r e ↦ let same = reads_once 1 (behind_mark bytes) (Ok gs) (Ok fs) s r in
          let is : gs ≡ fs = cc in ap (λ l. judged (map read_entry l)) is ∙ sym e
    ]

-- no definition reports lack of memory
abbrev IsTold : Option DocFault → Type 0
IsTold None = Unit {0}
IsTold (Some faults.Memory) = ⊥
IsTold (Some fault) = Unit {0}

told_if : (b : Bool) (f : DocFault) (later : Option DocFault) → IsTold (Some f) → IsTold later
    → IsTold (cond b (Some f) later)
told_if true f later h k = h
told_if false f later h k = k

told_first : (a b : Option DocFault) → IsTold a → IsTold b → IsTold (first_of a b)
told_first None b h k = k
told_first (Some f) b h k = h

told_place : (before : List EntryText) (e : EntryText) → IsTold (place_fault before e)
told_place before e = told_if (is_too_many before e) (faults.TooManyElements e.line) _ tt
    (told_if (is_again before e) (faults.Repeated e.line e.tag) _ tt
    (told_if (is_misspelt (names before e) e.value) (faults.BadId e.line) None tt tt))

told_double : (before : List EntryText) (e : EntryText) → IsTold (double_fault before e)
told_double before e = told_if (is_taken (names before e) e.value before)
    (faults.DuplicateId e.line) None tt tt

told_value : (e : EntryText) → IsTold (value_fault e)
told_value e = told_if (same_tag e.tag tags.Version && not (is_version e.value))
    (faults.BadVersion e.line) _ tt
    (told_if (same_tag e.tag tags.Relationship && not (is_relationship e.value))
    (faults.BadRelationship e.line) None tt tt)

told_all : (before es : List EntryText) → IsTold (first_fault before es)
told_all before [] = tt
told_all before (e ∷ es) =
    told_first (field_fault before e) (first_fault (e ∷ before) es)
    (told_first (place_fault before e) (first_of (double_fault before e) (value_fault e))
    (told_place before e) (told_first (double_fault before e) (value_fault e) (told_double before e)
    (told_value e)))
    (told_all (e ∷ before) es)

told_document : (es : List EntryText) → IsTold (missing_of_document es)
told_document es =
    told_if (is_absent tags.Version es) (faults.Missing 1 tags.Version) _ tt
    (told_if (is_absent tags.Identifier (head_of es)) (faults.Missing 1 tags.Identifier) _ tt
    (told_if (is_absent tags.DocumentName es) (faults.Missing 1 tags.DocumentName) _ tt
    (told_if (is_absent tags.DocumentNamespace es) (faults.Missing 1 tags.DocumentNamespace) None tt
    tt)))

told_elements : (es : List EntryText) → IsTold (missing_of_elements es)
told_elements [] = tt
told_elements (e ∷ es) = told_if (is_unnamed e es) (faults.Missing e.line tags.Identifier)
    (missing_of_elements es) tt (told_elements es)

abbrev IsToldErr : {T : Type 0} → Result T DocFault → Type 0
IsToldErr (Ok x) = Unit {0}
IsToldErr (Err fault) = IsTold (Some fault)

told_judged : (o : Option DocFault) (d : DocumentText) → IsTold o → IsToldErr (unless o d)
told_judged None d h = tt
told_judged (Some f) d h = h

told_piece : (line : ℕ) (p : Piece) (r : Result (List FieldText) DocFault) → IsToldErr r
    → IsToldErr (with_piece line p r)
told_piece line p (Ok fs) h = tt
told_piece line p (Err f) h = h

told_fails : (line : ℕ) (whole : List ℕ) (f : DocFault) → Fails line whole f → IsTold (Some f)
told_fails line whole faults.Memory h = h
told_fails line whole f h = tt

told_reads : (line : ℕ) (t : List ℕ) (r : Result (List FieldText) DocFault) → Reads line t r
    → IsToldErr r
told_reads line t r (done n) = tt
told_reads line t r (more n w p e rest s begins later) = told_piece n p s
    (told_reads (line_after n p) rest s later)
told_reads line t r (fails n w f h) = told_fails n w f h

told : (bytes : List ℕ) (r : Result DocumentText DocFault) → Spells bytes r → IsToldErr r
told bytes r (too_large b h) = tt
told bytes r (no_text b h k) = tt
told bytes r (no_fields b f h k l) = told_reads 1 (behind_mark bytes) (Err f) l
told bytes r (fields b fs h k l) =
    let es = map read_entry fs in
    told_judged (first_of (first_fault [] es) (missing_of es)) (document_of es)
    (told_first (first_fault [] es) (missing_of es) (told_all [] es)
    (told_first (missing_of_document es) (missing_of_elements es) (told_document es)
    (told_elements es)))

pub never_memory : (bytes : List ℕ) → Spells bytes (Err faults.Memory) → ⊥
never_memory bytes h = told bytes (Err faults.Memory) h
