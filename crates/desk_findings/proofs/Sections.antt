-- Each definition cuts a document as `parts` does: a field that begins no section stays in the
-- current part, any other begins one.
use Rattle.std.proofs.Common.{◌≡◌, ◌∙◌, ◌⊎◌, inl, inr, ℕ, ◌+◌, Bool, true, false, cond, List, []}
use Rattle.std.proofs.Common.{◌∷◌, ◌++◌, map, filter, sym, subst, ap, refl, append_assoc}
use Rattle.std.proofs.Common.{append-nil, ⊎_elim}
use Rattle.std.specs.Prelude.{Option, Some, None, is_some, not, reverse}
use Rattle.std.specs.List.{flat_map}
use Rattle.std.proofs.lemmas.List.{reverse-append}
use Rattle.std.proofs.lemmas.List.Sums.{take_while-cons}
use Rattle.desk_fields.specs.declared.tag.Tag.{Tag}
use Rattle.desk_fields.specs.declared.tag.Tag.TheVariants as tags
use Rattle.desk_fields.specs.Tags.{same_tag}
use Rattle.desk_tagvalue.specs.declared.sections.SectionKind.{SectionKind}
use Rattle.desk_tagvalue.specs.declared.sections.SectionKind.TheVariants as kinds
use Rattle.desk_tagvalue.specs.Entries.{EntryText}
use Rattle.desk_tagvalue.specs.Faults.{begins, kind_after, kind_of, section}
use Rattle.desk_tagvalue.specs.Parts.{Section, is_inside, head_of, sections_of, section_at, begins_with}
use Rattle.desk_tagvalue.specs.Sections.{section_begun, is_package, is_file}
use Rattle.desk_bom.specs.Contents.{own_files, onto_package}
use Rattle.desk_findings.specs.Fields.{fields_in, packages_after}
use Rattle.desk_findings.specs.Cut.{Part, fields, part_of, parts, last_of, last_part}
use Rattle.desk_findings.specs.Cut.{is_package_part, is_file_part, packages_of, files_of, owned}
use Rattle.desk_findings.specs.Cut.{begun, field_at, listed, findings_fields}

-- ---- what a field begins

abbrev is_of : (SectionKind → Bool) → Option SectionKind → Bool
is_of test None = false
is_of test (Some kind) = test kind

begins_what : (tag : Tag) → (same_tag tag tags.PackageName ≡ is_of is_package (section_begun tag))
    × (same_tag tag tags.FileName ≡ is_of is_file (section_begun tag))
begins_what tags.Version = (refl, refl)
begins_what tags.DataLicense = (refl, refl)
begins_what tags.Identifier = (refl, refl)
begins_what tags.DocumentName = (refl, refl)
begins_what tags.DocumentNamespace = (refl, refl)
begins_what tags.Creator = (refl, refl)
begins_what tags.Created = (refl, refl)
begins_what tags.PackageName = (refl, refl)
begins_what tags.PackageVersion = (refl, refl)
begins_what tags.DownloadLocation = (refl, refl)
begins_what tags.FilesAnalyzed = (refl, refl)
begins_what tags.VerificationCode = (refl, refl)
begins_what tags.PackageConcluded = (refl, refl)
begins_what tags.PackageDeclared = (refl, refl)
begins_what tags.PackageCopyright = (refl, refl)
begins_what tags.FileName = (refl, refl)
begins_what tags.FileChecksum = (refl, refl)
begins_what tags.FileConcluded = (refl, refl)
begins_what tags.FileLicense = (refl, refl)
begins_what tags.FileCopyright = (refl, refl)
begins_what tags.SnippetIdentifier = (refl, refl)
begins_what tags.LicenseIdentifier = (refl, refl)
begins_what tags.ExtractedText = (refl, refl)
begins_what tags.Relationship = (refl, refl)
begins_what tags.ReadOver = (refl, refl)
begins_what tags.Unknown = (refl, refl)

by_begun : (o : Option SectionKind) → (o ≡ None) ⊎ ((kind : SectionKind) × (o ≡ Some kind))
by_begun None = inl refl
by_begun (Some kind) = inr (kind, refl)

record Inside (e : EntryText) (es : List EntryText) : Type 0 where
  begins : section_begun e.tag ≡ None
  head : head_of (e ∷ es) ≡ e ∷ head_of es
  sections : sections_of (e ∷ es) ≡ sections_of es
  of_package : same_tag e.tag tags.PackageName ≡ false
  of_file : same_tag e.tag tags.FileName ≡ false

abbrev opened : SectionKind → EntryText → List EntryText → Part
opened kind e es = record { kind = kind; fields = e ∷ head_of es }

record Opens (kind : SectionKind) (e : EntryText) (es : List EntryText) : Type 0 where
  begins : section_begun e.tag ≡ Some kind
  head : head_of (e ∷ es) ≡ []
  sections : sections_of (e ∷ es) ≡ section_at e es ∷ sections_of es
  part : part_of (section_at e es) ≡ opened kind e es
  of_package : same_tag e.tag tags.PackageName ≡ is_package kind
  of_file : same_tag e.tag tags.FileName ≡ is_file kind

inside : (e : EntryText) (es : List EntryText) → section_begun e.tag ≡ None → Inside e es
inside e es is = record {
  begins = is;
  head = take_while-cons is_inside e es ∙ ap (λ o. cond (not (is_some o)) (e ∷ head_of es) []) is;
  sections = ap (λ o. cond (is_some o) (section_at e es ∷ sections_of es) (sections_of es)) is;
  of_package = (begins_what e.tag).0 ∙ ap (is_of is_package) is;
  of_file = (begins_what e.tag).1 ∙ ap (is_of is_file) is;
}

opens : (kind : SectionKind) (e : EntryText) (es : List EntryText) → section_begun e.tag ≡ Some kind
    → Opens kind e es
opens kind e es is = record {
  begins = is;
  head = take_while-cons is_inside e es ∙ ap (λ o. cond (not (is_some o)) (e ∷ head_of es) []) is;
  sections = ap (λ o. cond (is_some o) (section_at e es ∷ sections_of es) (sections_of es)) is;
  part = λ i. record { kind = kind_after (is i) kinds.Document; fields = e ∷ head_of es };
  of_package = (begins_what e.tag).0 ∙ ap (is_of is_package) is;
  of_file = (begins_what e.tag).1 ∙ ap (is_of is_file) is;
}

-- a fact about all documents: about an empty one, and about one with one more field, which stays in
-- the current part or begins one
over : (P : List EntryText → Type 0) (e : EntryText) (es : List EntryText)
    → (Inside e es → P (e ∷ es)) → ((kind : SectionKind) → Opens kind e es → P (e ∷ es))
    → P (e ∷ es)
over P e es stays begins_one = ⊎_elim (λ is. stays (inside e es is))
    (λ o. begins_one o.0 (opens o.0 e es o.1)) (by_begun (section_begun e.tag))

-- the parts after the document's own
abbrev later : List EntryText → List Part
later es = map part_of (sections_of es)

later_opens : (kind : SectionKind) (e : EntryText) (es : List EntryText) → Opens kind e es
    → later (e ∷ es) ≡ opened kind e es ∷ later es
later_opens kind e es o = ap (map part_of) o.sections ∙ ap (λ p. p ∷ later es) o.part

-- ---- each field is in one part

pub whole : (es : List EntryText) → flat_map fields (parts es) ≡ es
whole [] = refl
whole (e ∷ es) =
    over (λ l. head_of l ++ flat_map fields (later l) ≡ l) e es
    (λ s. (λ i. s.head i ++ flat_map fields (map part_of (s.sections i)))
    ∙ ap (λ l. e ∷ l) (whole es))
    (λ kind o. (λ i. o.head i ++ flat_map fields (later_opens kind e es o i))
    ∙ ap (λ l. e ∷ l) (whole es))

-- ---- packages and files are the parts of these kinds

kept : (tag : Tag) (test : SectionKind → Bool)
    → ((t : Tag) → same_tag t tag ≡ is_of test (section_begun t)) → (es : List EntryText)
    → map part_of (filter (begins_with tag) (sections_of es)) ≡ filter (λ p. test p.kind) (later es)
kept tag test same [] = refl
kept tag test same (e ∷ es) =
    over (λ l. map part_of (filter (begins_with tag) (sections_of l))
    ≡ filter (λ p. test p.kind) (later l)) e es
    (λ s. ap (λ l. map part_of (filter (begins_with tag) l)) s.sections ∙ kept tag test same es
    ∙ sym (ap (λ l. filter (λ p. test p.kind) (map part_of l)) s.sections))
    (λ kind o.
    let is = same e.tag ∙ ap (is_of test) o.begins in
    let keeps : (b : Bool) → same_tag e.tag tag ≡ b → map part_of (filter (begins_with tag)
    (section_at e es ∷ sections_of es))
    ≡ cond b (part_of (section_at e es)
    ∷ map part_of (filter (begins_with tag) (sections_of es)))
    (map part_of (filter (begins_with tag) (sections_of es))) = λ b. elim b as
    (λ b. same_tag e.tag tag ≡ b → map part_of
    (filter (begins_with tag) (section_at e es ∷ sections_of es))
    ≡ cond b (part_of (section_at e es) ∷ map part_of (filter (begins_with tag) (sections_of es)))
    (map part_of (filter (begins_with tag) (sections_of es)))) [
      | true ↦ λ h. ap (λ c. map part_of
          (cond c (section_at e es ∷ filter (begins_with tag) (sections_of es))
          (filter (begins_with tag) (sections_of es)))) h
      | false ↦ λ h. ap (λ c. map part_of
          (cond c (section_at e es ∷ filter (begins_with tag) (sections_of es))
          (filter (begins_with tag) (sections_of es)))) h
    ] in
    ap (λ l. map part_of (filter (begins_with tag) l)) o.sections ∙ keeps (test kind) is
    ∙ (λ i. cond (test kind) (o.part i ∷ kept tag test same es i) (kept tag test same es i))
    ∙ sym (ap (filter (λ p. test p.kind)) (later_opens kind e es o)))

pub packages : (es : List EntryText) → packages_of es ≡ filter is_package_part (parts es)
packages es = kept tags.PackageName is_package (λ t. (begins_what t).0) es

pub files : (es : List EntryText) → files_of es ≡ filter is_file_part (parts es)
files es = kept tags.FileName is_file (λ t. (begins_what t).1) es

-- ---- the files of packages

owned_later : (n m : ℕ) (es : List EntryText) → own_files n m es ≡ owned n m (later es)
owned_later n m [] = refl
owned_later n m (e ∷ es) =
    over (λ l. own_files n m l ≡ owned n m (later l)) e es
    (λ s. (λ i. cond (s.of_package i) (own_files (n + 1) m es)
    (cond (s.of_file i) (onto_package n m (own_files n (m + 1) es)) (own_files n m es)))
    ∙ owned_later n m es ∙ sym (ap (λ l. owned n m (map part_of l)) s.sections))
    (λ kind o. (λ i. cond (o.of_package i) (own_files (n + 1) m es)
    (cond (o.of_file i) (onto_package n m (own_files n (m + 1) es)) (own_files n m es)))
    ∙ (λ i. cond (is_package kind) (owned_later (n + 1) m es i)
    (cond (is_file kind) (onto_package n m (owned_later n (m + 1) es i)) (owned_later n m es i)))
    ∙ sym (ap (owned n m) (later_opens kind e es o)))

pub contents : (es : List EntryText) → own_files 0 0 es ≡ owned 0 0 (parts es)
contents es = owned_later 0 0 es

-- ---- the fields of findings

listed_later : (kind : SectionKind) (n : ℕ) (es : List EntryText)
    → fields_in kind n es ≡ map (field_at kind n) (head_of es) ++ listed n (later es)
listed_later kind n [] = refl
listed_later kind n (e ∷ es) =
    over (λ l. fields_in kind n l ≡ map (field_at kind n) (head_of l) ++ listed n (later l)) e es
    (λ s.
    let same : kind_after (section_begun e.tag) kind ≡ kind =
    ap (λ o. kind_after o kind) s.begins in
    let still : packages_after n e ≡ n = ap (λ b. cond b (n + 1) n) s.of_package in
    (λ i. field_at (same i) (still i) e ∷ fields_in (same i) (still i) es)
    ∙ ap (λ l. field_at kind n e ∷ l) (listed_later kind n es)
    ∙ sym (λ i. map (field_at kind n) (s.head i) ++ listed n (map part_of (s.sections i))))
    (λ new o.
    let other : kind_after (section_begun e.tag) kind ≡ new =
    ap (λ x. kind_after x kind) o.begins in
    let more : packages_after n e ≡ begun n (opened new e es) =
    ap (λ b. cond b (n + 1) n) o.of_package in
    (λ i. field_at (other i) (more i) e ∷ fields_in (other i) (more i) es)
    ∙ ap (λ l. field_at new (begun n (opened new e es)) e ∷ l)
    (listed_later new (begun n (opened new e es)) es)
    ∙ sym (λ i. map (field_at kind n) (o.head i) ++ listed n (later_opens new e es o i)))

pub findings : (es : List EntryText) → findings_fields es ≡ listed 0 (parts es)
findings es = listed_later kinds.Document 0 es

-- ---- the last part, by one field after another

abbrev grown : Option SectionKind → Part → EntryText → Part
grown None p e = record { kind = p.kind; fields = p.fields ++ (e ∷ []) }
grown (Some kind) p e = record { kind = kind; fields = e ∷ [] }

abbrev after : Part → List EntryText → Part
after p [] = p
after p (e ∷ es) = after (grown (section_begun e.tag) p e) es

after_append : (p : Part) (xs ys : List EntryText) → after p (xs ++ ys) ≡ after (after p xs) ys
after_append p [] ys = refl
after_append p (x ∷ xs) ys = after_append (grown (section_begun x.tag) p x) xs ys

abbrev with_head : Part → List EntryText → Part
with_head p es = record { kind = p.kind; fields = p.fields ++ head_of es }

last_after : (p : Part) (es : List EntryText) → last_of (with_head p es) (later es) ≡ after p es
last_after p [] = λ i. record { kind = p.kind; fields = append-nil p.fields i }
last_after p (e ∷ es) =
    over (λ l. last_of (with_head p l) (later l) ≡ after p l) e es
    (λ s.
    let longer : p.fields ++ head_of (e ∷ es) ≡ (p.fields ++ (e ∷ [])) ++ head_of es =
    ap (λ l. p.fields ++ l) s.head ∙ sym (append_assoc p.fields (e ∷ []) (head_of es)) in
    (λ i. last_of (record { kind = p.kind; fields = longer i }) (map part_of (s.sections i)))
    ∙ last_after (grown None p e) es
    ∙ sym (ap (λ o. after (grown o p e) es) s.begins))
    (λ kind o. ap (last_of (with_head p (e ∷ es))) (later_opens kind e es o)
    ∙ last_after (grown (Some kind) p e) es
    ∙ sym (ap (λ x. after (grown x p e) es) o.begins))

abbrev none : Part
none = record { kind = kinds.Document; fields = [] }

-- what a fault sees of the fields before it
abbrev Sees : List EntryText → Part → Type 0
Sees before p = (section before ≡ reverse p.fields) × (kind_of before ≡ p.kind)

sees_more : (e : EntryText) (before : List EntryText) (p : Part) (o : Option SectionKind)
    → section_begun e.tag ≡ o → Sees before p → Sees (e ∷ before) (grown o p e)
sees_more e before p None is h = (
  ap (λ x. cond (is_some x) (e ∷ []) (e ∷ section before)) is ∙ ap (λ l. e ∷ l) h.0
      ∙ sym (reverse-append p.fields (e ∷ [])),
  ap (λ x. kind_after x (kind_of before)) is ∙ h.1,
)
sees_more e before p (Some kind) is h = (
  ap (λ x. cond (is_some x) (e ∷ []) (e ∷ section before)) is,
  ap (λ x. kind_after x (kind_of before)) is,
)

sees : (before : List EntryText) → Sees before (after none (reverse before))
sees [] = (refl, refl)
sees (e ∷ before) =
    let back = ap (after none) (reverse-append (e ∷ []) before)
    ∙ after_append none (reverse before) (e ∷ []) in
    subst (Sees (e ∷ before)) (sym back)
    (sees_more e before (after none (reverse before)) (section_begun e.tag) refl (sees before))

pub faults : (before : List EntryText)
    → (section before ≡ reverse (last_part (reverse before)).fields)
    × (kind_of before ≡ (last_part (reverse before)).kind)
faults before = subst (Sees before) (sym (last_after none (reverse before))) (sees before)
