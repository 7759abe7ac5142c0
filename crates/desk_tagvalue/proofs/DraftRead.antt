-- A draft's fields are a document.
use Rattle.std.proofs.Common.{◌≡◌, ◌∙◌, ℕ, ◌+◌, ◌<◌, ◌≤◌, ◌^◌, ◌%◌, List, [], ◌∷◌, ◌++◌, length, ap}
use Rattle.std.proofs.Common.{refl, arith, Bool, true, false, cond, Some, None}
use Rattle.std.specs.Prelude.{codes, not, ◌&&◌, ◌||◌, count_by, nat_le, nat_lt}
use Rattle.std.specs.List.{list_all}
use Rattle.std.specs.Str.{bytes_eq}
use Rattle.std.specs.Fmt.{decimal}
use Rattle.std.proofs.lemmas.Fmt.{decimal_injective, decimal_by_steps}
use Rattle.desk_base.specs.Idstring.{is_idstring_byte}
use Rattle.std.proofs.lemmas.List.{append_cancel_left}
use Rattle.std.proofs.lemmas.Slice.Eq.{bytes_eq-Decides}
use Rattle.std.proofs.lemmas.Bool.Decides.{nat_tests}
use Rattle.hex.specs.Hex.{encode_lower}
use Rattle.desk_fields.specs.declared.tag.Tag.TheVariants as tags
use Rattle.desk_fields.specs.declared.fault.DocFault.TheVariants as faults
use Rattle.desk_tagvalue.specs.declared.drafts.Draft.{Draft}
use Rattle.desk_tagvalue.specs.declared.drafts.DraftFile.{DraftFile}
use Rattle.desk_tagvalue.specs.Entries.{EntryText}
use Rattle.desk_tagvalue.specs.Ids.{is_element_id}
use Rattle.desk_tagvalue.specs.Faults.{begins, has_element, first_fault, field_fault, first_of}
use Rattle.desk_tagvalue.proofs.DraftEntries.{entry, file_id, file_entries, AreFileEntries, Places, head_entries}
use Rattle.desk_tagvalue.proofs.StepLemmas.{count_one}

-- the fields of the document and its package, the newest first
abbrev pub behind_head : Draft → Places → List EntryText
behind_head d p =
    entry p.o tags.Relationship (codes "SPDXRef-DOCUMENT DESCRIBES SPDXRef-Package")
    ∷ entry p.n tags.PackageCopyright d.copyright
    ∷ entry p.m tags.PackageConcluded d.concluded ∷ entry p.l tags.VerificationCode d.code
    ∷ entry p.k tags.FilesAnalyzed (codes "true")
    ∷ entry p.j tags.DownloadLocation (codes "NOASSERTION")
    ∷ entry p.i tags.Identifier (codes "SPDXRef-Package") ∷ entry p.h tags.PackageName d.name
    ∷ entry p.g tags.Created d.created ∷ entry p.f tags.Creator (codes "Tool: licence-desk-1")
    ∷ entry p.e tags.DocumentNamespace d.namespace
    ∷ entry p.d tags.DocumentName d.name ∷ entry p.c tags.Identifier (codes "SPDXRef-DOCUMENT")
    ∷ entry p.b tags.DataLicense (codes "CC0-1.0")
    ∷ entry p.a tags.Version (codes "SPDX-2.3") ∷ []

-- no field of these fails
pub head_sound : (d : Draft) (p : Places) (rest : List EntryText)
    → first_fault [] (head_entries d p rest) ≡ first_fault (behind_head d p) rest
head_sound d p rest = refl

-- a file's identifier has its form, and is no other file's
digit_fits : (m : ℕ) → m < 10 → is_idstring_byte (48 + m) ≡ true
digit_fits m lt = grind (arith, nat_tests)

all_more : (xs : List ℕ) (b : ℕ) → list_all is_idstring_byte xs ≡ true → is_idstring_byte b ≡ true
    → list_all is_idstring_byte (xs ++ (b ∷ [])) ≡ true
all_more [] b h k = ap (λ v. v && true) k
all_more (x ∷ xs) b h k =
    let cases : (v : Bool) → (v && list_all is_idstring_byte xs) ≡ true → (v
    && list_all is_idstring_byte (xs ++ (b ∷ [])))
    ≡ true = λ v. elim v as (λ v. (v && list_all is_idstring_byte xs) ≡ true
    → (v && list_all is_idstring_byte (xs ++ (b ∷ []))) ≡ true) [
      | true ↦ λ rest. all_more xs b rest k
      | false ↦ λ rest. absurd cc
    ] in
    cases (is_idstring_byte x) h

decimal_fits : (k : ℕ) → k < 2 ^ 64 → list_all is_idstring_byte (decimal k) ≡ true
decimal_fits k small =
    decimal_by_steps (λ n ds. list_all is_idstring_byte ds ≡ true)
    (λ n lt. ap (λ v. v && true) (digit_fits n lt))
    (λ n ds ge h. all_more ds (48 + n % 10) h (digit_fits (n % 10) (omega arith))) k small

pub id_fits : (k : ℕ) → k < 2 ^ 64 → is_element_id (file_id k) ≡ true
id_fits k small =
    let some : nat_lt 0 (length (codes "File-" ++ decimal k)) ≡ true = grind (arith, nat_tests) in
    ap (λ v. v && list_all is_idstring_byte (decimal k)) some ∙ decimal_fits k small

pub ids_apart : (k j : ℕ) → k < 2 ^ 64 → j < 2 ^ 64 → k < j
    → bytes_eq (file_id k) (file_id j) ≡ false
ids_apart k j low high lt =
    let cases : (v : Bool) → bytes_eq (file_id k) (file_id j) ≡ v → v ≡ false =
    λ v. elim v as (λ v. bytes_eq (file_id k) (file_id j) ≡ v → v ≡ false) [
      | true ↦ λ is. absurd (let same =
          decimal_injective k j low high
          (append_cancel_left (codes "SPDXRef-File-") (decimal k) (decimal j)
          ((bytes_eq-Decides (file_id k) (file_id j)).0 is)) in omega arith)
      | false ↦ λ is. refl
    ] in
    cases (bytes_eq (file_id k) (file_id j)) refl

-- the package and the files before the one with number k
record Before (k : ℕ) (before : List EntryText) : Type 0 where
  pub count : count_by begins before ≡ k
  pub fresh : (j : ℕ) → k ≤ j → j < 2 ^ 64 → has_element (file_id j) before ≡ false

head_before : (d : Draft) (p : Places) → Before 1 (behind_head d p)
head_before d p = record { count = refl; fresh = λ j ge small. refl }

step_none : (before : List EntryText) (e : EntryText) (es : List EntryText)
    → field_fault before e ≡ None → first_fault before (e ∷ es) ≡ first_fault (e ∷ before) es
step_none before e es h = ap (λ o. first_of o (first_fault (e ∷ before) es)) h

name_sound : (before : List EntryText) (a k : ℕ) (v : List ℕ) → count_by begins before ≡ k
    → k < 10000 → field_fault before (entry a tags.FileName v) ≡ None
name_sound before a k v count lt =
    let room : nat_le 10000 (count_by begins before) ≡ false = grind (arith, nat_tests) in
    ap (λ b. first_of (cond b (Some (faults.TooManyElements a)) None) None) room

id_sound : (before : List EntryText) (a b : ℕ) (name v : List ℕ) → is_element_id v ≡ true
    → has_element v before ≡ false
    → field_fault (entry a tags.FileName name ∷ before) (entry b tags.Identifier v) ≡ None
id_sound before a b name v fits fresh =
    ap (λ w. first_of (cond (not w) (Some (faults.BadId b)) None)
    (first_of (cond (has_element v before) (Some (faults.DuplicateId b)) None) None)) fits
    ∙ ap (λ w. first_of (cond w (Some (faults.DuplicateId b)) None) None) fresh

abbrev behind_file : ℕ → DraftFile → ℕ → ℕ → ℕ → ℕ → ℕ → List EntryText → List EntryText
behind_file k f a b c d e before =
    entry e tags.FileCopyright f.copyright ∷ entry d tags.FileConcluded f.concluded
    ∷ entry c tags.FileChecksum (codes "SHA1: " ++ encode_lower f.digest)
    ∷ entry b tags.Identifier (file_id k) ∷ entry a tags.FileName (codes "./" ++ f.path) ∷ before

file_sound : (k : ℕ) (f : DraftFile) (a b c d e : ℕ) (rest before : List EntryText)
    → Before k before → k < 10000
    → first_fault before (file_entries k f a b c d e rest)
    ≡ first_fault (behind_file k f a b c d e before) rest
file_sound k f a b c d e rest before h lt =
    let e1 = entry a tags.FileName (codes "./" ++ f.path) in
    let e2 = entry b tags.Identifier (file_id k) in
    let e3 = entry c tags.FileChecksum (codes "SHA1: " ++ encode_lower f.digest) in
    let e4 = entry d tags.FileConcluded f.concluded in
    let e5 = entry e tags.FileCopyright f.copyright in
    let small : k < 2 ^ 64 = omega arith in
    step_none before e1 (e2 ∷ e3 ∷ e4 ∷ e5 ∷ rest)
    (name_sound before a k (codes "./" ++ f.path) h.count lt)
    ∙ step_none (e1 ∷ before) e2 (e3 ∷ e4 ∷ e5 ∷ rest)
    (id_sound before a b (codes "./" ++ f.path) (file_id k) (id_fits k small)
    (h.fresh k (omega arith) small))
    ∙ step_none (e2 ∷ e1 ∷ before) e3 (e4 ∷ e5 ∷ rest) refl
    ∙ step_none (e3 ∷ e2 ∷ e1 ∷ before) e4 (e5 ∷ rest) refl
    ∙ step_none (e4 ∷ e3 ∷ e2 ∷ e1 ∷ before) e5 rest refl

file_before : (k : ℕ) (f : DraftFile) (a b c d e : ℕ) (before : List EntryText) → Before k before
    → k < 10000 → Before (k + 1) (behind_file k f a b c d e before)
file_before k f a b c d e before h lt =
    let e1 = entry a tags.FileName (codes "./" ++ f.path) in
    let e2 = entry b tags.Identifier (file_id k) in
    let e3 = entry c tags.FileChecksum (codes "SHA1: " ++ encode_lower f.digest) in
    let e4 = entry d tags.FileConcluded f.concluded in
    let e5 = entry e tags.FileCopyright f.copyright in
    let c1 = count_one e1 before true refl in
    let c2 = count_one e2 (e1 ∷ before) false refl in
    let c3 = count_one e3 (e2 ∷ e1 ∷ before) false refl in
    let c4 = count_one e4 (e3 ∷ e2 ∷ e1 ∷ before) false refl in
    let c5 = count_one e5 (e4 ∷ e3 ∷ e2 ∷ e1 ∷ before) false refl in
    let old = h.count in
    record {
      count = omega arith;
      fresh = λ j ge small.
          ap (λ v. v || has_element (file_id j) before)
          (ids_apart k j (omega arith) small (omega arith)) ∙ h.fresh j (omega arith) small;
    }

files_sound : (k : ℕ) (fs : List DraftFile) (es before : List EntryText) → AreFileEntries k fs es
    → Before k before → k + length fs ≤ 10000 → first_fault before es ≡ None
files_sound k [] es before is h room = ap (first_fault before) is
files_sound k (f ∷ fs) es before is h room =
    let lt : k < 10000 = omega arith in
    ap (first_fault before) is.6 ∙ file_sound k f is.0 is.1 is.2 is.3 is.4 is.5 before h lt
    ∙ files_sound (k + 1) fs is.5 (behind_file k f is.0 is.1 is.2 is.3 is.4 before) is.7
    (file_before k f is.0 is.1 is.2 is.3 is.4 before h lt) (omega arith)

-- none of a draft's fields fails
pub draft_sound : (d : Draft) (p : Places) (rest : List EntryText) → AreFileEntries 1 d.files rest
    → length d.files ≤ 9999 → first_fault [] (head_entries d p rest) ≡ None
draft_sound d p rest is room = head_sound d p rest
    ∙ files_sound 1 d.files rest (behind_head d p) is (head_before d p) (omega arith)
