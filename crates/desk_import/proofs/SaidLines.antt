-- The lines of a document in normal form are read as what it says.
use Rattle.std.proofs.Common.{◌≡◌, ◌∙◌, ℕ, Bool, true, false, cond, List, [], ◌∷◌, ◌++◌, map, Some, refl, sym, ap, subst}
use Rattle.std.proofs.Common.{codes, append_assoc, get_or, drop}
use Rattle.std.specs.Prelude.{All, filter}
use Rattle.std.specs.List.{flat_map, list_all}
use Rattle.std.proofs.lemmas.Grind.{flat_map-append}
use Rattle.std.proofs.lemmas.List.{append-nil, map-append}
use Rattle.std.proofs.lemmas.List.Concat.{flat_map_single}
use Rattle.std.proofs.lemmas.List.Elements.{All-append, All-cons, All-head, All-nil, All-tail, All-weaker}
use Rattle.std.proofs.lemmas.List.Folds.{flat_map-map}
use Rattle.std.proofs.lemmas.Simd.{map-map}
use Rattle.desk_fields.specs.Tags.{same_tag}
use Rattle.desk_fields.specs.declared.tag.Tag.{Tag}
use Rattle.desk_fields.specs.declared.tag.Tag.TheVariants as tags
use Rattle.desk_tagvalue.specs.Columns.{AreEach}
use Rattle.desk_tagvalue.specs.Drafts.{LineText, in_text, one_line}
use Rattle.desk_tagvalue.specs.Entries.{EntryText, value_of}
use Rattle.desk_tagvalue.specs.Parts.{begins_with, document_of, edge_of, extracted_of, file_of}
use Rattle.desk_tagvalue.specs.Parts.{is_edge, is_inside, package_of, sections_of}
use Rattle.desk_tagvalue.specs.Parts.{sha1_of, snippet_of}
use Rattle.desk_spdx_json.specs.Values.{copyright_line, flag_text}
use Rattle.desk_spdx_json.specs.Words.{is_keyword, is_word}
use Rattle.desk_import.specs.Said.{DocumentSaid, EdgeSaid, FileSaid, IsEdge, IsFile, IsLicence}
use Rattle.desk_import.specs.Said.{IsNormal, IsNormalEdge, IsNormalFile, IsNormalPackage, IsPackage}
use Rattle.desk_import.specs.Said.{IsSaid, IsSnippet, LicenceSaid, PackageSaid, contains_line}
use Rattle.desk_import.specs.Said.{describes, document_lines, edge_line, edge_lines, edges_said}
use Rattle.desk_import.specs.Said.{fields_in, file_lines, head_lines, licence_lines, package_lines}
use Rattle.desk_import.specs.Said.{said, snippet_lines, values_of}
use Rattle.desk_import.proofs.Blocks.{flat-flat, flat-none, flat-same, inside-all, others, sections_skip}
use Rattle.desk_import.proofs.Blocks.{these, value-past, values-append, values-flat, values-other}
use Rattle.desk_import.proofs.Blocks.{values-made, values-own}
use Rattle.desk_import.proofs.Plain.{field, field_in, plain_lines, said_plain}
use Rattle.desk_import.proofs.WordLemmas.{kind_again, left_again, right_again, three}

-- ---- the fields of each part

-- of a copyright, whether it is in <text> or not
copyright_field : (b : Bool) (tag : Tag) (value : List ℕ) (rest : List LineText)
    → flat_map field_in (cond b (one_line tag value) (in_text tag value) ∷ rest)
    ≡ flat_map field_in (one_line tag value ∷ rest)
copyright_field true tag value rest = refl
copyright_field false tag value rest = refl

abbrev file_start : FileSaid → EntryText
file_start f = field tags.FileName f.name

abbrev file_fields : FileSaid → List EntryText
file_fields f =
    field tags.Identifier f.id
    ∷ field tags.FileChecksum (codes "SHA1: " ++ f.sha1)
    ∷ field tags.FileConcluded f.concluded
    ∷ (map (field tags.FileLicense) f.in_file ++ (field tags.FileCopyright f.copyright ∷ []))

file_given : (f : FileSaid) → flat_map field_in (file_lines f) ≡ file_start f ∷ file_fields f
file_given f = ap (λ l. file_start f ∷ field tags.Identifier f.id
    ∷ field tags.FileChecksum (codes "SHA1: " ++ f.sha1) ∷ field tags.FileConcluded f.concluded ∷ l)
    (flat_map-append field_in (map (one_line tags.FileLicense) f.in_file)
    (copyright_line tags.FileCopyright f.copyright ∷ [])
    ∙ (λ i. infos i ++ copyright_field (is_keyword f.copyright) tags.FileCopyright f.copyright [] i))
  where
    infos : flat_map field_in (map (one_line tags.FileLicense) f.in_file)
        ≡ map (field tags.FileLicense) f.in_file
    infos = flat_map-map field_in (one_line tags.FileLicense) f.in_file
        ∙ flat_map_single (field tags.FileLicense) f.in_file

abbrev package_start : PackageSaid → EntryText
package_start p = field tags.PackageName p.name

abbrev ties : PackageSaid → List EntryText
ties p = map (λ id. field tags.Relationship (three p.id (codes "CONTAINS") id)) p.contained

abbrev package_fields : PackageSaid → List EntryText
package_fields p =
    field tags.Identifier p.id
    ∷ field tags.PackageVersion p.version
    ∷ field tags.DownloadLocation p.download_location
    ∷ field tags.FilesAnalyzed (flag_text p.files_analyzed)
    ∷ field tags.VerificationCode p.code
    ∷ field tags.PackageConcluded p.concluded
    ∷ field tags.PackageDeclared p.declared
    ∷ field tags.PackageCopyright p.copyright
    ∷ ties p

package_given : (p : PackageSaid)
    → flat_map field_in (package_lines p) ≡ package_start p ∷ package_fields p
package_given p = ap (λ l. package_start p ∷ field tags.Identifier p.id
    ∷ field tags.PackageVersion p.version ∷ field tags.DownloadLocation p.download_location
    ∷ field tags.FilesAnalyzed (flag_text p.files_analyzed) ∷ field tags.VerificationCode p.code
    ∷ field tags.PackageConcluded p.concluded ∷ field tags.PackageDeclared p.declared ∷ l)
    (copyright_field (is_keyword p.copyright) tags.PackageCopyright p.copyright
    (map (contains_line p.id) p.contained)
    ∙ ap (λ l. field tags.PackageCopyright p.copyright ∷ l)
    (flat_map-map field_in (contains_line p.id) p.contained
    ∙ flat_map_single (λ id. field tags.Relationship (three p.id (codes "CONTAINS") id))
    p.contained))

abbrev snippet_start : List ℕ → EntryText
snippet_start id = field tags.SnippetIdentifier id

abbrev snippet_fields : List ℕ → List EntryText
snippet_fields id = []

abbrev licence_start : LicenceSaid → EntryText
licence_start l = field tags.LicenseIdentifier l.id

abbrev licence_fields : LicenceSaid → List EntryText
licence_fields l = field tags.ExtractedText l.text ∷ []

abbrev edge_field : EdgeSaid → EntryText
edge_field e = field tags.Relationship (three e.left e.kind e.right)

abbrev head_fields : DocumentSaid → List EntryText
head_fields d =
    field tags.Version d.version
    ∷ field tags.DataLicense d.data_license
    ∷ field tags.Identifier d.id
    ∷ field tags.DocumentName d.name
    ∷ field tags.DocumentNamespace d.namespace
    ∷ (map (field tags.Creator) d.creators ++ (field tags.Created d.created ∷ []))

head_given : (d : DocumentSaid) → flat_map field_in (head_lines d) ≡ head_fields d
head_given d = ap (λ l. field tags.Version d.version ∷ field tags.DataLicense d.data_license
    ∷ field tags.Identifier d.id ∷ field tags.DocumentName d.name
    ∷ field tags.DocumentNamespace d.namespace ∷ l)
    (flat_map-append field_in (map (one_line tags.Creator) d.creators)
    (one_line tags.Created d.created ∷ [])
    ∙ ap (λ l. l ++ (field tags.Created d.created ∷ []))
    (flat_map-map field_in (one_line tags.Creator) d.creators
    ∙ flat_map_single (field tags.Creator) d.creators))

abbrev edges_after : DocumentSaid → List EdgeSaid
edges_after d = map describes d.described ++ d.edges

edges_given : (d : DocumentSaid)
    → flat_map field_in (edge_lines d) ≡ map edge_field (edges_after d)
edges_given d = flat_map-append field_in (map (λ id. edge_line (describes id)) d.described)
    (map edge_line d.edges) ∙ (λ i. described i ++ listed i)
    ∙ sym (map-append edge_field (map describes d.described) d.edges)
  where
    described : flat_map field_in (map (λ id. edge_line (describes id)) d.described)
        ≡ map edge_field (map describes d.described)
    described = flat_map-map field_in (λ id. edge_line (describes id)) d.described
        ∙ flat_map_single (λ id. edge_field (describes id)) d.described
        ∙ sym (map-map edge_field describes d.described)

    listed : flat_map field_in (map edge_line d.edges) ≡ map edge_field d.edges
    listed = flat_map-map field_in edge_line d.edges ∙ flat_map_single edge_field d.edges

-- ---- the fields of all

abbrev files_in : DocumentSaid → List EntryText
files_in d = flat_map (λ f. file_start f ∷ file_fields f) d.files

abbrev snippets_in : DocumentSaid → List EntryText
snippets_in d = flat_map (λ id. snippet_start id ∷ snippet_fields id) d.snippets

abbrev packages_in : DocumentSaid → List EntryText
packages_in d = flat_map (λ p. package_start p ∷ package_fields p) d.packages

abbrev licences_in : DocumentSaid → List EntryText
licences_in d = flat_map (λ l. licence_start l ∷ licence_fields l) d.licences

abbrev last_in : DocumentSaid → List EntryText
last_in d = map edge_field (edges_after d)

abbrev all_in : DocumentSaid → List EntryText
all_in d = head_fields d ++ (files_in d
    ++ (snippets_in d ++ (packages_in d ++ (licences_in d ++ last_in d))))

all_given : (d : DocumentSaid) → flat_map field_in (document_lines d) ≡ all_in d
all_given d =
    flat_map-append field_in (head_lines d) files ∙ (λ i. head_given d i ++ (flat_map-append field_in
    (flat_map file_lines d.files) snippets
    ∙ (λ i. (flat-flat field_in file_lines d.files
    ∙ flat-same (λ f. flat_map field_in (file_lines f)) (λ f. file_start f ∷ file_fields f)
    file_given d.files) i ++ (flat_map-append field_in (flat_map snippet_lines d.snippets) packages
    ∙ (λ i. flat-flat field_in snippet_lines d.snippets i
    ++ (flat_map-append field_in (flat_map package_lines d.packages) licences
    ∙ (λ i. (flat-flat field_in package_lines d.packages
    ∙ flat-same (λ p. flat_map field_in (package_lines p)) (λ p. package_start p ∷ package_fields p)
    package_given d.packages) i
    ++ (flat_map-append field_in (flat_map licence_lines d.licences) (edge_lines d)
    ∙ (λ i. flat-flat field_in licence_lines d.licences i ++ edges_given d i)) i)) i)) i)) i)
  where
    licences : List LineText
    licences = flat_map licence_lines d.licences ++ edge_lines d

    packages : List LineText
    packages = flat_map package_lines d.packages ++ (flat_map licence_lines d.licences ++ edge_lines d)

    snippets : List LineText
    snippets = flat_map snippet_lines d.snippets ++ (flat_map package_lines d.packages
        ++ (flat_map licence_lines d.licences ++ edge_lines d))

    files : List LineText
    files = flat_map file_lines d.files ++ (flat_map snippet_lines d.snippets
        ++ (flat_map package_lines d.packages
        ++ (flat_map licence_lines d.licences ++ edge_lines d)))

-- ---- none of them begins a section but at its start

file_inside : (f : FileSaid) → list_all is_inside (file_fields f) ≡ true
file_inside f = inside-all tags.FileLicense (λ v. v) refl f.in_file
    (field tags.FileCopyright f.copyright ∷ []) refl

package_inside : (p : PackageSaid) → list_all is_inside (package_fields p) ≡ true
package_inside p = ap (list_all is_inside) (sym (append-nil (ties p)))
    ∙ inside-all tags.Relationship (λ id. three p.id (codes "CONTAINS") id) refl p.contained [] refl

head_inside : (d : DocumentSaid) → list_all is_inside (head_fields d) ≡ true
head_inside d = inside-all tags.Creator (λ v. v) refl d.creators
    (field tags.Created d.created ∷ []) refl

last_inside : (d : DocumentSaid) → list_all is_inside (last_in d) ≡ true
last_inside d = ap (list_all is_inside) (sym (append-nil (last_in d)))
    ∙ inside-all tags.Relationship (λ (e : EdgeSaid). three e.left e.kind e.right) refl
    (edges_after d) [] refl

none_last : (d : DocumentSaid) → sections_of (last_in d) ≡ []
none_last d = ap sections_of (sym (append-nil (last_in d)))
    ∙ sections_skip (last_in d) [] (last_inside d)

-- ---- the columns of each part

file_said : (f : FileSaid) (more : List EntryText) → IsNormalFile f
    → IsFile f (file_of (record { start = file_start f; fields = file_fields f ++ more }))
file_said f more n = record {
  name = refl;
  id = refl;
  sha1 = ap (λ b. cond b (Some f.sha1) (sha1_of (field tags.FileConcluded f.concluded
      ∷ ((map (field tags.FileLicense) f.in_file ++ (field tags.FileCopyright f.copyright ∷ []))
      ++ more)))) n.sha1;
  concluded = refl;
  copyright = ap (value_of tags.FileCopyright) (append_assoc
      (map (field tags.FileLicense) f.in_file) (field tags.FileCopyright f.copyright ∷ []) more)
      ∙ value-past tags.FileCopyright tags.FileLicense (λ v. v) refl f.in_file
      (field tags.FileCopyright f.copyright ∷ more);
}

package_said : (p : PackageSaid) (more : List EntryText) → IsNormalPackage p
    → IsPackage p (package_of (record { start = package_start p; fields = package_fields p ++ more }))
package_said p more n = record {
  name = refl;
  id = refl;
  version = refl;
  download_location = refl;
  files_analyzed = refl;
  verification_code = refl;
  concluded = refl;
  declared = refl;
  copyright = refl;
}

licence_said : (l : LicenceSaid) (more : List EntryText) → Unit {0}
    → IsLicence l (extracted_of (record { start = licence_start l; fields = licence_fields l ++ more }))
licence_said l more n = record { id = refl; text = refl }

-- ---- the relationships

pub record AreWords (e : EdgeSaid) : Type 0 where
  pub left : is_word e.left ≡ true
  pub kind : is_word e.kind ≡ true
  pub right : is_word e.right ≡ true

edge_said : (x : EdgeSaid) (e : EntryText) → AreWords x → e.value ≡ three x.left x.kind x.right
    → IsEdge x (edge_of e)
edge_said x e w is = subst (λ v. IsEdge x (edge_of (record { line = e.line; tag = e.tag; value = v })))
    (sym is) (record {
      left = left_again x.left x.kind x.right w.left w.kind w.right;
      kind = kind_again x.left x.kind x.right w.left w.kind w.right;
      right = right_again x.left x.kind x.right w.left w.kind w.right;
    })

abbrev three_of : EdgeSaid → List ℕ
three_of e = three e.left e.kind e.right

edges_read : (xs : List EdgeSaid) (es : List EntryText) → All AreWords xs
    → map (λ (e : EntryText). e.value) es ≡ map three_of xs → AreEach IsEdge xs (map edge_of es)
edges_read [] [] w is = tt
edges_read [] (e ∷ es) w is = absurd cc
edges_read (x ∷ xs) [] w is = absurd cc
edges_read (x ∷ xs) (e ∷ es) w is = (
  edge_said x e (All-head AreWords x xs w) (ap (λ l. get_or l 0 []) is),
  edges_read xs es (All-tail AreWords x xs w) (ap (drop 1) is),
)

-- ---- the values of the tags that may occur more often

abbrev behind_head : DocumentSaid → List EntryText
behind_head d =
    files_in d ++ (snippets_in d ++ (packages_in d ++ (licences_in d ++ last_in d)))

module _ (tag : Tag) (d : DocumentSaid) where
  values_in_parts : values_of tag (all_in d)
      ≡ values_of tag (head_fields d) ++ (values_of tag (files_in d) ++ (values_of tag (snippets_in d)
      ++ (values_of tag (packages_in d) ++ (values_of tag (licences_in d)
      ++ values_of tag (last_in d)))))
  values_in_parts = values-append tag (head_fields d) (behind_head d)
      ∙ ap (λ l. values_of tag (head_fields d) ++ l)
      (values-append tag (files_in d) (snippets_in d ++ (packages_in d ++ (licences_in d ++ last_in d)))
      ∙ ap (λ l. values_of tag (files_in d) ++ l)
      (values-append tag (snippets_in d) (packages_in d ++ (licences_in d ++ last_in d))
      ∙ ap (λ l. values_of tag (snippets_in d) ++ l)
      (values-append tag (packages_in d) (licences_in d ++ last_in d)
      ∙ ap (λ l. values_of tag (packages_in d) ++ l)
      (values-append tag (licences_in d) (last_in d)))))

  part_none : {A : Type 0} (f : A → List EntryText) → ((x : A) → values_of tag (f x) ≡ [])
      → (xs : List A) → values_of tag (flat_map f xs) ≡ []
  part_none f none xs = values-flat tag f xs ∙ flat-none (λ x. values_of tag (f x)) none xs

creators_read : (d : DocumentSaid) → values_of tags.Creator (all_in d) ≡ d.creators
creators_read d = values_in_parts tags.Creator d
    ∙ (λ i. head i ++ (part_none tags.Creator d (λ f. file_start f ∷ file_fields f) file d.files i
    ++ (part_none tags.Creator d (λ id. snippet_start id ∷ snippet_fields id) (λ id. refl)
    d.snippets i ++ (part_none tags.Creator d (λ p. package_start p ∷ package_fields p)
    package_none d.packages i ++ (part_none tags.Creator d (λ l. licence_start l ∷ licence_fields l)
    (λ l. refl) d.licences i ++ values-other tags.Creator tags.Relationship three_of refl
    (edges_after d) i)))))
    ∙ append-nil d.creators
  where
    head : values_of tags.Creator (head_fields d) ≡ d.creators
    head = values-append tags.Creator (map (field tags.Creator) d.creators)
        (field tags.Created d.created ∷ [])
        ∙ append-nil (values_of tags.Creator (map (field tags.Creator) d.creators))
        ∙ values-own tags.Creator refl d.creators

    file : (f : FileSaid) → values_of tags.Creator (file_start f ∷ file_fields f) ≡ []
    file f = values-append tags.Creator (map (field tags.FileLicense) f.in_file)
        (field tags.FileCopyright f.copyright ∷ [])
        ∙ append-nil (values_of tags.Creator (map (field tags.FileLicense) f.in_file))
        ∙ values-other tags.Creator tags.FileLicense (λ v. v) refl f.in_file

    package_none : (p : PackageSaid)
        → values_of tags.Creator (package_start p ∷ package_fields p) ≡ []
    package_none p = values-other tags.Creator tags.Relationship
        (λ id. three p.id (codes "CONTAINS") id) refl p.contained

in_files_read : (d : DocumentSaid)
    → values_of tags.FileLicense (all_in d) ≡ flat_map (λ (f : FileSaid). f.in_file) d.files
in_files_read d = values_in_parts tags.FileLicense d
    ∙ (λ i. head i ++ (files i ++ (part_none tags.FileLicense d
    (λ id. snippet_start id ∷ snippet_fields id) (λ id. refl) d.snippets i
    ++ (part_none tags.FileLicense d (λ p. package_start p ∷ package_fields p) package_none
    d.packages i ++ (part_none tags.FileLicense d (λ l. licence_start l ∷ licence_fields l)
    (λ l. refl) d.licences i ++ values-other tags.FileLicense tags.Relationship three_of refl
    (edges_after d) i)))))
    ∙ append-nil (flat_map (λ (f : FileSaid). f.in_file) d.files)
  where
    head : values_of tags.FileLicense (head_fields d) ≡ []
    head = values-append tags.FileLicense (map (field tags.Creator) d.creators)
        (field tags.Created d.created ∷ [])
        ∙ append-nil (values_of tags.FileLicense (map (field tags.Creator) d.creators))
        ∙ values-other tags.FileLicense tags.Creator (λ v. v) refl d.creators

    file : (f : FileSaid) → values_of tags.FileLicense (file_start f ∷ file_fields f) ≡ f.in_file
    file f = values-append tags.FileLicense (map (field tags.FileLicense) f.in_file)
        (field tags.FileCopyright f.copyright ∷ [])
        ∙ append-nil (values_of tags.FileLicense (map (field tags.FileLicense) f.in_file))
        ∙ values-own tags.FileLicense refl f.in_file

    files : values_of tags.FileLicense (files_in d) ≡ flat_map (λ (f : FileSaid). f.in_file) d.files
    files = values-flat tags.FileLicense (λ f. file_start f ∷ file_fields f) d.files
        ∙ flat-same (λ f. values_of tags.FileLicense (file_start f ∷ file_fields f))
        (λ (f : FileSaid). f.in_file) file d.files

    package_none : (p : PackageSaid)
        → values_of tags.FileLicense (package_start p ∷ package_fields p) ≡ []
    package_none p = values-other tags.FileLicense tags.Relationship
        (λ id. three p.id (codes "CONTAINS") id) refl p.contained

abbrev tied : PackageSaid → List EdgeSaid
tied p = map (said p.id (codes "CONTAINS")) p.contained

map-flat : {A B C : Type 0} (g : B → C) (f : A → List B) (xs : List A)
    → map g (flat_map f xs) ≡ flat_map (λ x. map g (f x)) xs
map-flat g f [] = refl
map-flat g f (x ∷ xs) = map-append g (f x) (flat_map f xs) ∙ ap (λ l. map g (f x) ++ l)
    (map-flat g f xs)

edges_values : (d : DocumentSaid)
    → values_of tags.Relationship (all_in d) ≡ map three_of (edges_said d)
edges_values d = values_in_parts tags.Relationship d
    ∙ (λ i. head i ++ (part_none tags.Relationship d (λ f. file_start f ∷ file_fields f) file d.files i
    ++ (part_none tags.Relationship d (λ id. snippet_start id ∷ snippet_fields id) (λ id. refl)
    d.snippets i ++ (packages i
    ++ (part_none tags.Relationship d (λ l. licence_start l ∷ licence_fields l) (λ l. refl)
    d.licences i ++ values-made tags.Relationship three_of refl (edges_after d) i)))))
    ∙ sym (map-append three_of (flat_map tied d.packages) (edges_after d))
  where
    head : values_of tags.Relationship (head_fields d) ≡ []
    head = values-append tags.Relationship (map (field tags.Creator) d.creators)
        (field tags.Created d.created ∷ [])
        ∙ append-nil (values_of tags.Relationship (map (field tags.Creator) d.creators))
        ∙ values-other tags.Relationship tags.Creator (λ v. v) refl d.creators

    file : (f : FileSaid) → values_of tags.Relationship (file_start f ∷ file_fields f) ≡ []
    file f = values-append tags.Relationship (map (field tags.FileLicense) f.in_file)
        (field tags.FileCopyright f.copyright ∷ [])
        ∙ append-nil (values_of tags.Relationship (map (field tags.FileLicense) f.in_file))
        ∙ values-other tags.Relationship tags.FileLicense (λ v. v) refl f.in_file

    of_package : (p : PackageSaid)
        → values_of tags.Relationship (package_start p ∷ package_fields p) ≡ map three_of (tied p)
    of_package p = values-made tags.Relationship (λ id. three p.id (codes "CONTAINS") id) refl
        p.contained ∙ sym (map-map three_of (said p.id (codes "CONTAINS")) p.contained)

    packages : values_of tags.Relationship (packages_in d) ≡ map three_of (flat_map tied d.packages)
    packages = values-flat tags.Relationship (λ p. package_start p ∷ package_fields p) d.packages
        ∙ flat-same (λ p. values_of tags.Relationship (package_start p ∷ package_fields p))
        (λ p. map three_of (tied p)) of_package d.packages
        ∙ sym (map-flat three_of tied d.packages)

-- ---- their words

all_flat : {A B : Type 0} (P : B → Type 0) (Q : A → Type 0) (f : A → List B)
    → ((x : A) → Q x → All P (f x)) → (xs : List A) → All Q xs → All P (flat_map f xs)
all_flat P Q f is [] all = All-nil P
all_flat P Q f is (x ∷ xs) all = All-append P (f x) (flat_map f xs) (is x (All-head Q x xs all))
    (all_flat P Q f is xs (All-tail Q x xs all))

all_map : {A B : Type 0} (P : B → Type 0) (Q : A → Type 0) (f : A → B)
    → ((x : A) → Q x → P (f x)) → (xs : List A) → All Q xs → All P (map f xs)
all_map P Q f is [] all = All-nil P
all_map P Q f is (x ∷ xs) all = All-cons P (f x) (map f xs) (is x (All-head Q x xs all))
    (all_map P Q f is xs (All-tail Q x xs all))

all_words : (d : DocumentSaid) → IsNormal d → All AreWords (edges_said d)
all_words d n = All-append AreWords (flat_map tied d.packages) (edges_after d)
    (all_flat AreWords IsNormalPackage tied (λ p q. all_map AreWords (λ id. is_word id ≡ true)
    (said p.id (codes "CONTAINS"))
    (λ id is. record { left = q.id; kind = refl; right = is }) p.contained q.contained)
    d.packages n.packages)
    (All-append AreWords (map describes d.described) d.edges
    (all_map AreWords (λ id. is_word id ≡ true) describes
    (λ id is. record { left = refl; kind = refl; right = is }) d.described n.described)
    (All-weaker IsNormalEdge AreWords
    (λ e q. record { left = q.left; kind = q.kind; right = q.right }) d.edges n.edges))

-- ---- the sections

-- none of these begins a section with the tag
abbrev NoneBegins : Tag → List EntryText → Type 0
NoneBegins tag es = filter (begins_with tag) (sections_of es) ≡ []

module _ (d : DocumentSaid) (tag : Tag) where
  none_in_last : NoneBegins tag (last_in d)
  none_in_last = ap (filter (begins_with tag)) (none_last d)

  none_in_licences : same_tag tags.LicenseIdentifier tag ≡ false
      → NoneBegins tag (licences_in d ++ last_in d)
  none_in_licences other = others licence_start licence_fields (λ l. refl) (λ l. refl) tag
      (λ l. other) d.licences (last_in d) ∙ none_in_last

  none_in_packages : same_tag tags.PackageName tag ≡ false
      → same_tag tags.LicenseIdentifier tag ≡ false
      → NoneBegins tag (packages_in d ++ (licences_in d ++ last_in d))
  none_in_packages other last = others package_start package_fields (λ p. refl) package_inside tag
      (λ p. other) d.packages (licences_in d ++ last_in d) ∙ none_in_licences last

  past_files : same_tag tags.FileName tag ≡ false
      → filter (begins_with tag) (sections_of (all_in d))
      ≡ filter (begins_with tag)
      (sections_of (snippets_in d ++ (packages_in d ++ (licences_in d ++ last_in d))))
  past_files other = ap (filter (begins_with tag))
      (sections_skip (head_fields d) (behind_head d) (head_inside d))
      ∙ others file_start file_fields (λ f. refl) file_inside tag (λ f. other) d.files
      (snippets_in d ++ (packages_in d ++ (licences_in d ++ last_in d)))

  past_snippets : same_tag tags.FileName tag ≡ false → same_tag tags.SnippetIdentifier tag ≡ false
      → filter (begins_with tag) (sections_of (all_in d))
      ≡ filter (begins_with tag) (sections_of (packages_in d ++ (licences_in d ++ last_in d)))
  past_snippets other next = past_files other
      ∙ others snippet_start snippet_fields (λ id. refl) (λ id. refl) tag (λ id. next) d.snippets
      (packages_in d ++ (licences_in d ++ last_in d))

unit_all : {A : Type 0} (xs : List A) → All (λ (x : A). Unit {0}) xs
unit_all {A} [] = All-nil (λ (x : A). Unit {0})
unit_all {A} (x ∷ xs) = All-cons (λ (x : A). Unit {0}) x xs tt (unit_all xs)

module _ (d : DocumentSaid) (n : IsNormal d) where
  files_read : AreEach IsFile d.files (map file_of
      (filter (begins_with tags.FileName) (sections_of (all_in d))))
  files_read = subst (λ ss. AreEach IsFile d.files (map file_of ss))
      (sym (ap (filter (begins_with tags.FileName))
      (sections_skip (head_fields d) (behind_head d) (head_inside d))))
      (these file_start file_fields (λ f. refl) file_inside tags.FileName (λ f. refl) IsNormalFile
      IsFile file_of (λ f more q. file_said f more q) d.files n.files
      (snippets_in d ++ (packages_in d ++ (licences_in d ++ last_in d)))
      (others snippet_start snippet_fields (λ id. refl) (λ id. refl) tags.FileName (λ id. refl)
      d.snippets (packages_in d ++ (licences_in d ++ last_in d))
      ∙ none_in_packages d tags.FileName refl refl))

  snippets_read : AreEach IsSnippet d.snippets (map snippet_of
      (filter (begins_with tags.SnippetIdentifier) (sections_of (all_in d))))
  snippets_read = subst (λ ss. AreEach IsSnippet d.snippets (map snippet_of ss))
      (sym (past_files d tags.SnippetIdentifier refl))
      (these snippet_start snippet_fields (λ id. refl) (λ id. refl) tags.SnippetIdentifier
      (λ id. refl) (λ id. Unit {0}) IsSnippet snippet_of (λ id more q. refl) d.snippets
      (unit_all d.snippets) (packages_in d ++ (licences_in d ++ last_in d))
      (none_in_packages d tags.SnippetIdentifier refl refl))

  packages_read : AreEach IsPackage d.packages (map package_of
      (filter (begins_with tags.PackageName) (sections_of (all_in d))))
  packages_read = subst (λ ss. AreEach IsPackage d.packages (map package_of ss))
      (sym (past_snippets d tags.PackageName refl refl))
      (these package_start package_fields (λ p. refl) package_inside tags.PackageName (λ p. refl)
      IsNormalPackage IsPackage package_of (λ p more q. package_said p more q) d.packages n.packages
      (licences_in d ++ last_in d) (none_in_licences d tags.PackageName refl))

  licences_read : AreEach IsLicence d.licences (map extracted_of
      (filter (begins_with tags.LicenseIdentifier) (sections_of (all_in d))))
  licences_read = subst (λ ss. AreEach IsLicence d.licences (map extracted_of ss))
      (sym (past_snippets d tags.LicenseIdentifier refl refl
      ∙ others package_start package_fields (λ p. refl) package_inside tags.LicenseIdentifier
      (λ p. refl) d.packages (licences_in d ++ last_in d)))
      (these licence_start licence_fields (λ l. refl) (λ l. refl) tags.LicenseIdentifier (λ l. refl)
      (λ l. Unit {0}) IsLicence extracted_of (λ l more q. licence_said l more q) d.licences
      (unit_all d.licences) (last_in d) (none_in_last d tags.LicenseIdentifier))

  fields_said : IsSaid d (document_of (all_in d))
  fields_said = record {
    version = refl;
    data_license = refl;
    id = refl;
    name = refl;
    namespace = refl;
    creators = creators_read d;
    created = ap (value_of tags.Created) (append_assoc (map (field tags.Creator) d.creators)
        (field tags.Created d.created ∷ []) (behind_head d))
        ∙ value-past tags.Created tags.Creator (λ v. v) refl d.creators
        (field tags.Created d.created ∷ behind_head d);
    packages = packages_read;
    files = files_read;
    in_files = in_files_read d;
    snippets = snippets_read;
    licences = licences_read;
    edges = edges_read (edges_said d) (filter is_edge (all_in d)) (all_words d n) (edges_values d);
  }

pub lines_said : (d : DocumentSaid) → IsNormal d → IsSaid d (document_of (fields_in (document_lines d)))
lines_said d n = said_plain d (fields_in (document_lines d))
    (subst (λ es. IsSaid d (document_of es))
    (sym (plain_lines 1 (document_lines d) ∙ all_given d)) (fields_said d n))
