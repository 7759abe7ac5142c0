-- Fields at most once, and columns by their names.
use Rattle.std.proofs.Common.{◌≡◌, ◌∙◌, ℕ, ◌+◌, ◌≤◌, Bool, true, false, cond, List, [], ◌∷◌, map, refl}
use Rattle.std.proofs.Common.{sym, ap, subst, arith, Option, Some, None, Result, Ok, get_or}
use Rattle.std.specs.Prelude.{◌&&◌, ◌||◌, not, is_some, All, filter, codes, nat_eq}
use Rattle.std.specs.List.{count_by, list_any, starts_with}
use Rattle.std.proofs.lemmas.Bool.{eqb-true}
use Rattle.std.proofs.lemmas.List.Elements.{All-nil, All-cons}
use Rattle.std.proofs.lemmas.List.Sums.{sum_by-cons, take_while-cons}
use Rattle.desk_fields.specs.Tags.{same_tag, tag_name, tag_place}
use Rattle.desk_fields.specs.declared.fault.DocFault.{DocFault}
use Rattle.desk_fields.specs.declared.fault.DocFault.TheVariants as faults
use Rattle.desk_fields.specs.declared.tag.Tag.{Tag}
use Rattle.desk_fields.specs.declared.tag.Tag.TheVariants as tags
use Rattle.desk_tagvalue.specs.Columns.{AreEach, AreOnceIn, HasColumns, HaveEachOnce}
use Rattle.desk_tagvalue.specs.Columns.{IsExtractedOf, IsFileOf, IsPackageOf, IsSnippetOf}
use Rattle.desk_tagvalue.specs.Documents.{Spells, too_large, no_text, no_fields, fields, unless}
use Rattle.desk_tagvalue.specs.Entries.{EntryText, read_entry}
use Rattle.desk_tagvalue.specs.Faults.{begins, field_fault, first_fault, first_of, has_tag, is_again}
use Rattle.desk_tagvalue.specs.Faults.{is_misspelt, is_too_many, kind_after, kind_of, names}
use Rattle.desk_tagvalue.specs.Faults.{place_fault, section}
use Rattle.desk_tagvalue.specs.Missing.{missing_of}
use Rattle.desk_tagvalue.specs.Parts.{DocumentText, Section, begins_with, document_of, extracted_of}
use Rattle.desk_tagvalue.specs.Parts.{file_of, head_of, is_inside, package_of, section_at}
use Rattle.desk_tagvalue.specs.Parts.{sections_of, snippet_of}
use Rattle.desk_tagvalue.specs.Sections.{is_package, is_placed, once_in_document, once_in_section, section_begun}
use Rattle.desk_tagvalue.specs.declared.sections.SectionKind.{SectionKind}
use Rattle.desk_tagvalue.proofs.SeenLemmas.{again_in_document, again_in_section}

-- ---- tags by their places

abbrev all_tags : List Tag
all_tags = tags.Version ∷ tags.DataLicense ∷ tags.Identifier ∷ tags.DocumentName
    ∷ tags.DocumentNamespace ∷ tags.Creator ∷ tags.Created ∷ tags.PackageName
    ∷ tags.PackageVersion ∷ tags.DownloadLocation ∷ tags.FilesAnalyzed ∷ tags.VerificationCode
    ∷ tags.PackageConcluded ∷ tags.PackageDeclared ∷ tags.PackageCopyright ∷ tags.FileName
    ∷ tags.FileChecksum ∷ tags.FileConcluded ∷ tags.FileLicense ∷ tags.FileCopyright
    ∷ tags.SnippetIdentifier ∷ tags.LicenseIdentifier ∷ tags.ExtractedText ∷ tags.Relationship
    ∷ tags.ReadOver ∷ []

abbrev tag_at : ℕ → Tag
tag_at n = get_or all_tags n tags.Unknown

at_place : (t : Tag) → tag_at (tag_place t) ≡ t
at_place tags.Version = refl
at_place tags.DataLicense = refl
at_place tags.Identifier = refl
at_place tags.DocumentName = refl
at_place tags.DocumentNamespace = refl
at_place tags.Creator = refl
at_place tags.Created = refl
at_place tags.PackageName = refl
at_place tags.PackageVersion = refl
at_place tags.DownloadLocation = refl
at_place tags.FilesAnalyzed = refl
at_place tags.VerificationCode = refl
at_place tags.PackageConcluded = refl
at_place tags.PackageDeclared = refl
at_place tags.PackageCopyright = refl
at_place tags.FileName = refl
at_place tags.FileChecksum = refl
at_place tags.FileConcluded = refl
at_place tags.FileLicense = refl
at_place tags.FileCopyright = refl
at_place tags.SnippetIdentifier = refl
at_place tags.LicenseIdentifier = refl
at_place tags.ExtractedText = refl
at_place tags.Relationship = refl
at_place tags.ReadOver = refl
at_place tags.Unknown = refl

is_tag : (a b : Tag) → same_tag a b ≡ true → a ≡ b
is_tag a b e = sym (at_place a) ∙ ap tag_at (eqb-true (tag_place a) (tag_place b) e) ∙ at_place b

-- ---- fields without a fault

abbrev weight : Bool → ℕ
weight b = cond b 1 0

first_none : (a b : Option DocFault) → first_of a b ≡ None → (a ≡ None) × (b ≡ None)
first_none None b e = (refl, e)
first_none (Some fault) b e = absurd cc

-- the second of two tests fails, if neither has a fault
second_fails : (a b : Bool) (x y : DocFault) (rest : Option DocFault)
    → cond a (Some x) (cond b (Some y) rest) ≡ None → b ≡ false
second_fails true b x y rest e = absurd cc
second_fails false true x y rest e = absurd cc
second_fails false false x y rest e = refl

not_again : (before : List EntryText) (e : EntryText) (es : List EntryText)
    → first_fault before (e ∷ es) ≡ None
    → (is_again before e ≡ false) × (first_fault (e ∷ before) es ≡ None)
not_again before e es none =
    let two = first_none (field_fault before e) (first_fault (e ∷ before) es) none in
    let here = first_none (place_fault before e) _ two.0 in (
      second_fails (is_too_many before e) (is_again before e) (faults.TooManyElements e.line)
          (faults.Repeated e.line e.tag)
          (cond (is_misspelt (names before e) e.value) (Some (faults.BadId e.line)) None) here.0,
      two.1,
    )

weight_le : (a : Bool) → 0 + weight a ≤ 1
weight_le true = omega arith
weight_le false = omega arith

-- one more field, which isn't counted twice
step : (h a : Bool) (n count : ℕ) → count ≡ weight h + n → n + weight (h || a) ≤ 1
    → (h ≡ true → a ≡ true → ⊥) → count + weight a ≤ 1
step true true n count is later clash = absurd (clash refl refl)
step true false n count is later clash = omega (arith, is, later)
step false a n count is later clash = omega (arith, is, later)

count_more : (tag : Tag) (e : EntryText) (es : List EntryText)
    → count_by (has_tag tag) (e ∷ es) ≡ weight (has_tag tag e) + count_by (has_tag tag) es
count_more tag e es = sum_by-cons (λ x. cond (has_tag tag x) 1 0) e es

-- ---- once in the document

in_document : (tag : Tag) → once_in_document tag ≡ true → (es before : List EntryText)
    → first_fault before es ≡ None
    → count_by (has_tag tag) es + weight (list_any (has_tag tag) before) ≤ 1
in_document tag once [] before none = weight_le (list_any (has_tag tag) before)
in_document tag once (e ∷ es) before none =
    let fresh = not_again before e es none in
    step (has_tag tag e) (list_any (has_tag tag) before) (count_by (has_tag tag) es)
    (count_by (has_tag tag) (e ∷ es)) (count_more tag e es)
    (in_document tag once es (e ∷ before) fresh.1)
    (λ same there. clash (is_again before e) fresh.0
    (sym (again_in_document tag before e (is_tag e.tag tag same) once) ∙ there))
  where
    clash : (b : Bool) → b ≡ false → b ≡ true → ⊥
    clash b not_is here_is = cc

-- ---- once in a section

abbrev IsInSection : Tag → List EntryText → Type 0
IsInSection tag before = (once_in_section tag ≡ true) × (once_in_document tag ≡ false)
    × (is_placed (kind_of before) tag ≡ true)

three : (a b c : Bool) → a ≡ true → b ≡ true → c ≡ true → (a && b && c) ≡ true
three a b c x y z = λ i. x i && y i && z i

again : (tag : Tag) (before : List EntryText) (e : EntryText) → IsInSection tag before
    → same_tag e.tag tag ≡ true → list_any (has_tag tag) (section before) ≡ true
    → is_again before e ≡ true
again tag before e in_it same there =
    sym (again_in_section tag before e (is_tag e.tag tag same) in_it.1)
    ∙ three (once_in_section tag) (is_placed (kind_of before) tag)
    (list_any (has_tag tag) (section before)) in_it.0 in_it.2 there

not_begun : (o : Option SectionKind) (k : SectionKind) → is_some o ≡ false → kind_after o k ≡ k
not_begun None k e = refl
not_begun (Some kind) k e = absurd cc

in_section : (tag : Tag) (es before : List EntryText) → IsInSection tag before
    → first_fault before es ≡ None
    → count_by (has_tag tag) (head_of es) + weight (list_any (has_tag tag) (section before)) ≤ 1
in_section tag [] before in_it none = weight_le (list_any (has_tag tag) (section before))
in_section tag (e ∷ es) before in_it none =
    let fresh = not_again before e es none in
    let inner : begins e ≡ false
    → count_by (has_tag tag) (head_of (e ∷ es)) + weight (list_any (has_tag tag) (section before))
    ≤ 1
    = λ inside.
    let kind : kind_of (e ∷ before) ≡ kind_of before =
    not_begun (section_begun e.tag) (kind_of before) inside in
    let open_part : section (e ∷ before) ≡ e ∷ section before =
    ap (λ b. cond b (e ∷ []) (e ∷ section before)) inside in
    let later : count_by (has_tag tag) (head_of es)
    + weight (list_any (has_tag tag) (section (e ∷ before))) ≤ 1 =
    in_section tag es (e ∷ before)
    (in_it.0, in_it.1, ap (λ k. is_placed k tag) kind ∙ in_it.2) fresh.1 in
    let counted : count_by (has_tag tag) (head_of (e ∷ es))
    ≡ weight (has_tag tag e) + count_by (has_tag tag) (head_of es) =
    ap (count_by (has_tag tag)) (take_while-cons is_inside e es
    ∙ ap (λ b. cond (not b) (e ∷ head_of es) []) inside) ∙ count_more tag e (head_of es) in
    step (has_tag tag e) (list_any (has_tag tag) (section before))
    (count_by (has_tag tag) (head_of es)) (count_by (has_tag tag) (head_of (e ∷ es))) counted
    (subst (λ part. count_by (has_tag tag) (head_of es) + weight (list_any (has_tag tag) part) ≤ 1)
    open_part later)
    (λ same there. clash (is_again before e) fresh.0 (again tag before e in_it same there)) in
    let outer : begins e ≡ true
    → count_by (has_tag tag) (head_of (e ∷ es)) + weight (list_any (has_tag tag) (section before))
    ≤ 1
    = λ begun.
    let empty : head_of (e ∷ es) ≡ [] = take_while-cons is_inside e es
    ∙ ap (λ b. cond (not b) (e ∷ head_of es) []) begun in
    subst (λ l. count_by (has_tag tag) l + weight (list_any (has_tag tag) (section before)) ≤ 1)
    (sym empty) (weight_le (list_any (has_tag tag) (section before))) in
    either (begins e) _ outer inner
  where
    clash : (b : Bool) → b ≡ false → b ≡ true → ⊥
    clash b not_is here_is = cc

    either : (b : Bool) (P : Type 0) → (b ≡ true → P) → (b ≡ false → P) → P
    either true P here_is not_is = here_is refl
    either false P here_is not_is = not_is refl

-- what a section with this first field has once
section_once : (tag : Tag) (line : ℕ) (value : List ℕ) (before es : List EntryText)
    → first_fault (record { line = line; tag = tag; value = value } ∷ before) es ≡ None
    → AreOnceIn tag (head_of es)
section_once tags.PackageName line value before es none =
    let start : EntryText = record { line = line; tag = tags.PackageName; value = value } in
    let one = λ (t : Tag) (in_it : IsInSection t (start ∷ before)).
    within t (count_by (has_tag t) (head_of es)) _ (in_section t es (start ∷ before) in_it none) in (
      one tags.Identifier (refl, refl, refl),
      (
        one tags.PackageVersion (refl, refl, refl),
        (
          one tags.DownloadLocation (refl, refl, refl),
          (
            one tags.FilesAnalyzed (refl, refl, refl),
            (
              one tags.VerificationCode (refl, refl, refl),
              (
                one tags.PackageConcluded (refl, refl, refl),
                (
                  one tags.PackageDeclared (refl, refl, refl),
                  (
                    one tags.PackageCopyright (refl, refl, refl),
                    tt,
                  ),
                ),
              ),
            ),
          ),
        ),
      ),
    )
  where
    within : (t : Tag) (n m : ℕ) → n + m ≤ 1 → n ≤ 1
    within t n m le = omega (arith, le)
section_once tags.FileName line value before es none =
    let start : EntryText = record { line = line; tag = tags.FileName; value = value } in
    let one = λ (t : Tag) (in_it : IsInSection t (start ∷ before)).
    within t (count_by (has_tag t) (head_of es)) _ (in_section t es (start ∷ before) in_it none) in (
      one tags.Identifier (refl, refl, refl),
      (
        one tags.FileConcluded (refl, refl, refl),
        (one tags.FileCopyright (refl, refl, refl), tt),
      ),
    )
  where
    within : (t : Tag) (n m : ℕ) → n + m ≤ 1 → n ≤ 1
    within t n m le = omega (arith, le)
section_once tags.LicenseIdentifier line value before es none =
    let start : EntryText = record { line = line; tag = tags.LicenseIdentifier; value = value } in
    let one = λ (t : Tag) (in_it : IsInSection t (start ∷ before)).
    within t (count_by (has_tag t) (head_of es)) _ (in_section t es (start ∷ before) in_it none) in
    (one tags.ExtractedText (refl, refl, refl), tt)
  where
    within : (t : Tag) (n m : ℕ) → n + m ≤ 1 → n ≤ 1
    within t n m le = omega (arith, le)
section_once _ line value before es none = tt

sections_once : (es before : List EntryText) → first_fault before es ≡ None
    → All (λ (s : Section). AreOnceIn s.start.tag s.fields) (sections_of es)
sections_once [] before none = All-nil (λ (s : Section). AreOnceIn s.start.tag s.fields)
sections_once (e ∷ es) before none =
    let fresh = not_again before e es none in
    let later = sections_once es (e ∷ before) fresh.1 in
    elim (begins e) as (λ b. All (λ (s : Section). AreOnceIn s.start.tag s.fields)
    (cond b (section_at e es ∷ sections_of es) (sections_of es))) [
      | true ↦ All-cons (λ (s : Section). AreOnceIn s.start.tag s.fields) (section_at e es)
          (sections_of es) (section_once e.tag e.line e.value before es fresh.1) later
      | false ↦ later
    ]

each_once : (es : List EntryText) → first_fault [] es ≡ None → HaveEachOnce es
each_once es none =
    let one = λ (t : Tag) (once : once_in_document t ≡ true).
    within (count_by (has_tag t) es) _ (in_document t once es [] none) in
    record {
      document = (
        one tags.Version refl,
        (
          one tags.DataLicense refl,
          (
            one tags.DocumentName refl,
            (one tags.DocumentNamespace refl, (one tags.Created refl, tt)),
          ),
        ),
      );
      identifier = (
        within (count_by (has_tag tags.Identifier) (head_of es)) _
            (in_section tags.Identifier es [] (refl, refl, refl) none),
        tt,
      );
      sections = sections_once es [] none;
    }
  where
    within : (n m : ℕ) → n + m ≤ 1 → n ≤ 1
    within n m le = omega (arith, le)

-- ---- columns

are_each : {A B : Type 0} (Is : A → B → Type 0) (f : A → B) → ((x : A) → Is x (f x))
    → (xs : List A) → AreEach Is xs (map f xs)
are_each Is f is [] = tt
are_each Is f is (x ∷ xs) = (is x, are_each Is f is xs)

package_columns : (s : Section) → IsPackageOf s (package_of s)
package_columns s = record {
  line = refl;
  name = refl;
  id = refl;
  version = refl;
  download_location = refl;
  files_analyzed = refl;
  verification_code = refl;
  concluded = refl;
  declared = refl;
  copyright = refl;
}

file_columns : (s : Section) → IsFileOf s (file_of s)
file_columns s = record {
  line = refl;
  name = refl;
  id = refl;
  sha1 = refl;
  concluded = refl;
  copyright = refl;
}

snippet_columns : (s : Section) → IsSnippetOf s (snippet_of s)
snippet_columns s = record { line = refl; id = refl }

extracted_columns : (s : Section) → IsExtractedOf s (extracted_of s)
extracted_columns s = record { line = refl; id = refl; text = refl }

columns : (es : List EntryText) → HasColumns (document_of es)
columns es = record {
  name = refl;
  namespace = refl;
  packages = are_each IsPackageOf package_of package_columns
      (filter (begins_with tags.PackageName) (sections_of es));
  files = are_each IsFileOf file_of file_columns
      (filter (begins_with tags.FileName) (sections_of es));
  snippets = are_each IsSnippetOf snippet_of snippet_columns
      (filter (begins_with tags.SnippetIdentifier) (sections_of es));
  extracted = are_each IsExtractedOf extracted_of extracted_columns
      (filter (begins_with tags.LicenseIdentifier) (sections_of es));
}

-- ---- whole documents

pub record IsRead (d : DocumentText) : Type 0 where
  pub entries : List EntryText
  pub faultless : first_fault [] entries ≡ None
  pub is : d ≡ document_of entries

without_fault : (o : Option DocFault) (y x : DocumentText) → unless o y ≡ Ok x
    → (o ≡ None) × (x ≡ y)
without_fault None y x is = (refl, cc)
without_fault (Some fault) y x is = absurd cc

read : (bytes : List ℕ) (r : Result DocumentText DocFault) → Spells bytes r → (d : DocumentText)
    → r ≡ Ok d → IsRead d
read bytes r (too_large _ big) d is = absurd cc
read bytes r (no_text _ small not_utf8) d is = absurd cc
read bytes r (no_fields _ fault small utf8 reads) d is = absurd cc
read bytes r (fields _ fs small utf8 reads) d is =
    let es = map read_entry fs in
    let found = without_fault (first_of (first_fault [] es) (missing_of es)) (document_of es) d is in
    record {
      entries = es;
      faultless = (first_none (first_fault [] es) (missing_of es) found.0).0;
      is = found.1;
    }

pub once_when_read : (bytes : List ℕ) (d : DocumentText) → Spells bytes (Ok d)
    → HaveEachOnce d.entries
once_when_read bytes d spells =
    let found = read bytes (Ok d) spells d refl in
    subst (λ (x : DocumentText). HaveEachOnce x.entries) (sym found.is)
    (each_once found.entries found.faultless)

pub columns_when_read : (bytes : List ℕ) (d : DocumentText) → Spells bytes (Ok d) → HasColumns d
columns_when_read bytes d spells =
    let found = read bytes (Ok d) spells d refl in
    subst HasColumns (sym found.is) (columns found.entries)

-- ---- where fields of packages count

pub package_alone : (kind : SectionKind) (tag : Tag)
    → starts_with nat_eq (tag_name tag) (codes "Package") ≡ true
    → same_tag tag tags.PackageName ≡ false → is_placed kind tag ≡ is_package kind
package_alone kind tags.PackageVersion named other = refl
package_alone kind tags.DownloadLocation named other = refl
package_alone kind tags.VerificationCode named other = refl
package_alone kind tags.PackageConcluded named other = refl
package_alone kind tags.PackageDeclared named other = refl
package_alone kind tags.PackageCopyright named other = refl
package_alone kind _ named other = absurd cc
