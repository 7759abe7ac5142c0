-- The object of a document in normal form is converted to its lines.
use Rattle.std.proofs.Common.{◌≡◌, ◌∙◌, ℕ, ◌+◌, true, cond, List, [], ◌∷◌, ◌++◌, map, Some, refl, ap}
use Rattle.std.proofs.Common.{Bool, None, append_assoc, codes, false, subst, sym}
use Rattle.std.specs.Prelude.{◌||◌}
use Rattle.std.specs.Str.{bytes_eq}
use Rattle.std.specs.Prelude.{All}
use Rattle.std.specs.List.{flat_map}
use Rattle.std.proofs.lemmas.Grind.{flat_map-append}
use Rattle.std.proofs.lemmas.List.{append-nil, map-append}
use Rattle.std.proofs.lemmas.List.Concat.{flat_map_single}
use Rattle.std.proofs.lemmas.List.Elements.{All-head, All-tail}
use Rattle.serde_json.specs.Data.{Data, Items, item, no_items, string}
use Rattle.desk_base.specs.TextSets.{is_among}
use Rattle.desk_fields.specs.declared.tag.Tag.{Tag}
use Rattle.desk_fields.specs.declared.tag.Tag.TheVariants as tags
use Rattle.desk_tagvalue.specs.Drafts.{LineText, blank, one_line}
use Rattle.desk_spdx_json.specs.Documents.{creation_steps, described_steps, document_steps}
use Rattle.desk_spdx_json.specs.Documents.{elements_at, targets, targets_in}
use Rattle.desk_spdx_json.specs.declared.parts.Part.{Part}
use Rattle.desk_spdx_json.specs.declared.parts.Part.TheVariants as parts
use Rattle.desk_spdx_json.specs.Elements.{ElementText, first_with, merged, merged_after, steps_beside}
use Rattle.desk_spdx_json.specs.Parts.{id_key, part_element, part_steps}
use Rattle.desk_spdx_json.specs.Members.{document_members}
use Rattle.desk_spdx_json.specs.Parts.{contained_steps, extracted_steps, file_steps, object_steps}
use Rattle.desk_spdx_json.specs.Parts.{package_steps, relationship_steps, snippet_steps}
use Rattle.desk_spdx_json.specs.Steps.{StepText, item_at, member_at}
use Rattle.desk_spdx_json.specs.Values.{copyright_line, flag_text, items_steps, line_step, word_in}
use Rattle.desk_spdx_json.specs.Values.{text_steps}
use Rattle.desk_spdx_json.specs.Words.{is_word}
use Rattle.desk_spdx_json.specs.Steps.{lines_in, lines_of}
use Rattle.desk_import.specs.Said.{AreDistinct, AreNew, DocumentSaid, EdgeSaid, FileSaid, IsNormal, IsNormalEdge}
use Rattle.desk_import.specs.Said.{IsNormalFile, IsNormalPackage, LicenceSaid, PackageSaid}
use Rattle.desk_import.specs.Said.{contains_line, creation_object, describes, document_lines}
use Rattle.desk_import.specs.Said.{document_object, edge_line, edge_lines, element_ids, file_lines, file_object}
use Rattle.desk_import.specs.Said.{items_by, licence_lines, licence_object, package_lines}
use Rattle.desk_import.specs.Said.{package_object, relationship_object, snippet_lines, snippet_object}

-- ---- the items of a list

items_lines : {A : Type 0} (steps : List ℕ → Data → List StepText) (of_item : A → Data)
    (lines : A → List LineText) (P : A → Type 0)
    → ((at : List ℕ) (x : A) → P x → lines_of (steps at (of_item x)) ≡ lines x)
    → (at : List ℕ) (i : ℕ) (xs : List A) → All P xs
    → lines_of (items_steps steps at i (items_by of_item xs)) ≡ flat_map lines xs
items_lines steps of_item lines P is at i [] all = refl
items_lines steps of_item lines P is at i (x ∷ xs) all =
    flat_map-append lines_in (steps (item_at at i) (of_item x))
    (items_steps steps at (i + 1) (items_by of_item xs))
    ∙ (λ k. is (item_at at i) x (All-head P x xs all) k
    ++ items_lines steps of_item lines P is at (i + 1) xs (All-tail P x xs all) k)

texts_lines : (tag : Tag) (at : List ℕ) (i : ℕ) (vs : List (List ℕ))
    → lines_of (items_steps (text_steps tag) at i (items_by string vs)) ≡ map (one_line tag) vs
texts_lines tag at i [] = refl
texts_lines tag at i (v ∷ vs) = ap (λ l. one_line tag v ∷ l) (texts_lines tag at (i + 1) vs)

-- ---- each part

module _ (at : List ℕ) (f : FileSaid) (n : IsNormalFile f) where
  abbrev infos : List StepText
  infos = items_steps (text_steps tags.FileLicense) (member_at at (codes "licenseInfoInFiles")) 0
      (items_by string f.in_file)

  abbrev copyright : List StepText
  copyright = line_step (member_at at (codes "copyrightText")) (copyright_line tags.FileCopyright)
      (Some f.copyright) ∷ []

  file_end : lines_of ((infos ++ copyright) ++ [])
      ≡ map (one_line tags.FileLicense) f.in_file
      ++ copyright_line tags.FileCopyright f.copyright ∷ []
  file_end = ap lines_of (append-nil (infos ++ copyright)) ∙ flat_map-append lines_in infos copyright
      ∙ ap (λ l. l ++ copyright_line tags.FileCopyright f.copyright ∷ [])
      (texts_lines tags.FileLicense (member_at at (codes "licenseInfoInFiles")) 0 f.in_file)

  file_lined : lines_of (file_steps at (file_object f)) ≡ file_lines f
  file_lined = rw n.digits (ap (λ l. blank ∷ one_line tags.FileName f.name
      ∷ one_line tags.Identifier f.id ∷ one_line tags.FileChecksum (codes "SHA1: " ++ f.sha1)
      ∷ one_line tags.FileConcluded f.concluded ∷ l) file_end)

tie_lined : (owner at id : List ℕ) → is_word id ≡ true
    → lines_of (contained_steps owner at (string id)) ≡ contains_line owner id ∷ []
tie_lined owner at id is = rw is refl

module _ (at : List ℕ) (p : PackageSaid) (n : IsNormalPackage p) where
  ties_lined : lines_of (items_steps (contained_steps p.id) (member_at at (codes "hasFiles")) 0
      (items_by string p.contained)) ≡ map (contains_line p.id) p.contained
  ties_lined = items_lines (contained_steps p.id) string (λ id. contains_line p.id id ∷ [])
      (λ id. is_word id ≡ true) (λ at id is. tie_lined p.id at id is)
      (member_at at (codes "hasFiles")) 0 p.contained n.contained
      ∙ flat_map_single (contains_line p.id) p.contained

  package_lined : lines_of (package_steps at (package_object p)) ≡ package_lines p
  package_lined = rw n.code (λ i. blank ∷ one_line tags.PackageName p.name
      ∷ one_line tags.Identifier p.id ∷ one_line tags.PackageVersion p.version
      ∷ one_line tags.DownloadLocation p.download_location
      ∷ one_line tags.FilesAnalyzed (flag_text p.files_analyzed)
      ∷ one_line tags.VerificationCode (append-nil p.code i)
      ∷ one_line tags.PackageConcluded p.concluded ∷ one_line tags.PackageDeclared p.declared
      ∷ copyright_line tags.PackageCopyright p.copyright ∷ ties_lined i)

edge_lined : (at : List ℕ) (e : EdgeSaid) → IsNormalEdge e
    → lines_of (relationship_steps at (relationship_object e)) ≡ edge_line e ∷ []
edge_lined at e n = rw (n.left, n.kind, n.right) refl

-- ---- what the document describes

no_targets : (es : List EdgeSaid) → All IsNormalEdge es
    → targets_in (items_by relationship_object es) ≡ []
no_targets [] all = refl
no_targets (e ∷ es) all =
    ap (λ b. cond b (e.right ∷ []) [] ++ targets_in (items_by relationship_object es))
    (IsNormalEdge.other (All-head IsNormalEdge e es all))
    ∙ no_targets es (All-tail IsNormalEdge e es all)

described_lined : (at id : List ℕ) → is_word id ≡ true
    → lines_of (described_steps [] at (string id)) ≡ edge_line (describes id) ∷ []
described_lined at id is = rw is refl

-- ---- elements of distinct identifiers

map_id : {A : Type 0} (xs : List A) → map (λ x. x) xs ≡ xs
map_id [] = refl
map_id (x ∷ xs) = ap (λ l. x ∷ l) (map_id xs)

four_apart : {A : Type 0} (a b c d e : List A)
    → (a ++ (b ++ (c ++ d))) ++ e ≡ a ++ (b ++ (c ++ (d ++ e)))
four_apart a b c d e =
    append_assoc a (b ++ (c ++ d)) e
    ∙ ap (λ l. a ++ l) (append_assoc b (c ++ d) e ∙ ap (λ l. b ++ l) (append_assoc c d e))

not_first : (id : List ℕ) (es : List ElementText) → is_among (map (λ (e : ElementText). e.id) es) id ≡ false
    → first_with id es ≡ None
not_first id [] out = refl
not_first id (e ∷ es) out = step (bytes_eq e.id id) refl (not_first id es) out where
  step : (b : Bool) → bytes_eq e.id id ≡ b
      → (is_among (map (λ (x : ElementText). x.id) es) id ≡ false → first_with id es ≡ None)
      → (b || is_among (map (λ (x : ElementText). x.id) es) id) ≡ false
      → first_with id (e ∷ es) ≡ None
  step true is more e = absurd cc
  step false is more e = rw is (more e)

-- each is written
merged_new : (before es : List ElementText)
    → AreNew (map (λ (e : ElementText). e.id) before) (map (λ (e : ElementText). e.id) es)
    → merged_after before es ≡ flat_map (λ (e : ElementText). e.steps) es
merged_new before [] new = refl
merged_new before (e ∷ es) new =
    ap (λ o. steps_beside e o ++ merged_after (before ++ e ∷ []) es)
    (not_first e.id before new.0)
    ∙ ap (λ l. e.steps ++ l) (merged_new (before ++ e ∷ []) es
    (subst (λ ids. AreNew ids (map (λ (x : ElementText). x.id) es))
    (sym (map-append (λ (x : ElementText). x.id) before (e ∷ []))) new.1))

part_ids : {A : Type 0} (part : Part) (of_item : A → Data) (id_of : A → List ℕ)
    → ((x : A) → word_in (id_key part) (of_item x) ≡ id_of x) → (at : List ℕ) (i : ℕ) (xs : List A)
    → map (λ (e : ElementText). e.id)
    (items_steps (λ place v. part_element part place v ∷ []) at i (items_by of_item xs))
    ≡ map id_of xs
part_ids part of_item id_of is at i [] = refl
part_ids part of_item id_of is at i (x ∷ xs) =
    λ k. is x k ∷ part_ids part of_item id_of is at (i + 1) xs k

part_elements : (part : Part) (at : List ℕ) (i : ℕ) (ds : Items)
    → flat_map (λ (e : ElementText). e.steps)
    (items_steps (λ place v. part_element part place v ∷ []) at i ds)
    ≡ items_steps (part_steps part) at i ds
part_elements part at i no_items = refl
part_elements part at i (item v vs) = ap (λ l. part_steps part (item_at at i) v ++ l)
    (part_elements part at (i + 1) vs)

-- ---- the whole

module _ (d : DocumentSaid) (n : IsNormal d) where
  abbrev place : List ℕ → List ℕ
  place key = member_at [] key

  abbrev creators : List StepText
  creators = items_steps (text_steps tags.Creator)
      (member_at (place (codes "creationInfo")) (codes "creators")) 0 (items_by string d.creators)

  abbrev created : List StepText
  created = line_step (member_at (place (codes "creationInfo")) (codes "created"))
      (one_line tags.Created) (Some d.created) ∷ []

  creators_lined : lines_of (creation_steps (place (codes "creationInfo")) (Some (creation_object d)))
      ≡ map (one_line tags.Creator) d.creators ++ one_line tags.Created d.created ∷ []
  creators_lined = ap lines_of (append-nil (creators ++ created))
      ∙ flat_map-append lines_in creators created
      ∙ ap (λ l. l ++ one_line tags.Created d.created ∷ [])
      (texts_lines tags.Creator (member_at (place (codes "creationInfo")) (codes "creators")) 0
      d.creators)

  files_lined : lines_of (items_steps file_steps (place (codes "files")) 0
      (items_by file_object d.files)) ≡ flat_map file_lines d.files
  files_lined = items_lines file_steps file_object file_lines IsNormalFile file_lined
      (place (codes "files")) 0 d.files n.files

  snippets_lined : (at : List ℕ) (i : ℕ) (ids : List (List ℕ))
      → lines_of (items_steps snippet_steps at i (items_by snippet_object ids))
      ≡ flat_map snippet_lines ids
  snippets_lined at i [] = refl
  snippets_lined at i (id ∷ ids) = ap (λ l. snippet_lines id ++ l) (snippets_lined at (i + 1) ids)

  packages_lined : lines_of (items_steps package_steps (place (codes "packages")) 0
      (items_by package_object d.packages)) ≡ flat_map package_lines d.packages
  packages_lined = items_lines package_steps package_object package_lines
      IsNormalPackage package_lined (place (codes "packages")) 0 d.packages n.packages

  licences_lined : (at : List ℕ) (i : ℕ) (ls : List LicenceSaid)
      → lines_of (items_steps extracted_steps at i (items_by licence_object ls))
      ≡ flat_map licence_lines ls
  licences_lined at i [] = refl
  licences_lined at i (l ∷ ls) = ap (λ more. licence_lines l ++ more)
      (licences_lined at (i + 1) ls)

  all_described : lines_of (items_steps (described_steps (targets (document_object d)))
      (place (codes "documentDescribes")) 0 (items_by string d.described))
      ≡ map (λ id. edge_line (describes id)) d.described
  all_described = ap (λ ids. lines_of (items_steps (described_steps ids)
      (place (codes "documentDescribes")) 0 (items_by string d.described)))
      (no_targets d.edges n.edges)
      ∙ items_lines (described_steps []) string (λ id. edge_line (describes id) ∷ [])
      (λ id. is_word id ≡ true) described_lined (place (codes "documentDescribes")) 0 d.described
      n.described
      ∙ flat_map_single (λ id. edge_line (describes id)) d.described

  edges_lined : lines_of (items_steps relationship_steps (place (codes "relationships"))
      0 (items_by relationship_object d.edges)) ≡ map edge_line d.edges
  edges_lined = items_lines relationship_steps relationship_object
      (λ e. edge_line e ∷ []) IsNormalEdge edge_lined (place (codes "relationships")) 0 d.edges
      n.edges
      ∙ flat_map_single edge_line d.edges

  abbrev files : List StepText
  files = items_steps file_steps (place (codes "files")) 0 (items_by file_object d.files)

  abbrev snippets : List StepText
  snippets = items_steps snippet_steps (place (codes "snippets")) 0
      (items_by snippet_object d.snippets)

  abbrev packages : List StepText
  packages = items_steps package_steps (place (codes "packages")) 0
      (items_by package_object d.packages)

  abbrev licences : List StepText
  licences = items_steps extracted_steps (place (codes "hasExtractedLicensingInfos")) 0
      (items_by licence_object d.licences)

  abbrev described : List StepText
  described = items_steps (described_steps (targets (document_object d)))
      (place (codes "documentDescribes")) 0 (items_by string d.described)

  abbrev edges : List StepText
  edges = items_steps relationship_steps (place (codes "relationships")) 0
      (items_by relationship_object d.edges)

  abbrev creation : List StepText
  creation = creation_steps (place (codes "creationInfo")) (Some (creation_object d))

  abbrev list : Part → List ℕ → Items → List ElementText
  list part key ds = items_steps (λ at v. part_element part at v ∷ []) (place key) 0 ds

  abbrev file_list : List ElementText
  file_list = list parts.File (codes "files") (items_by file_object d.files)

  abbrev snippet_list : List ElementText
  snippet_list = list parts.Snippet (codes "snippets") (items_by snippet_object d.snippets)

  abbrev package_list : List ElementText
  package_list = list parts.Package (codes "packages") (items_by package_object d.packages)

  abbrev licence_list : List ElementText
  licence_list = list parts.Extracted (codes "hasExtractedLicensingInfos")
      (items_by licence_object d.licences)

  ids_are : map (λ (e : ElementText). e.id) (elements_at [] (document_object d)) ≡ element_ids d
  ids_are =
      map-append (λ (e : ElementText). e.id) file_list (snippet_list ++ (package_list ++ licence_list))
      ∙ (λ i. part_ids parts.File file_object (λ (f : FileSaid). f.id) (λ f. refl)
      (place (codes "files")) 0 d.files i
      ++ (map-append (λ (e : ElementText). e.id) snippet_list (package_list ++ licence_list)
      ∙ (λ i. (part_ids parts.Snippet snippet_object (λ id. id) (λ id. refl)
      (place (codes "snippets")) 0 d.snippets ∙ map_id d.snippets) i
      ++ (map-append (λ (e : ElementText). e.id) package_list licence_list
      ∙ (λ i. part_ids parts.Package package_object (λ (p : PackageSaid). p.id) (λ p. refl)
      (place (codes "packages")) 0 d.packages i
      ++ part_ids parts.Extracted licence_object (λ (l : LicenceSaid). l.id) (λ l. refl)
      (place (codes "hasExtractedLicensingInfos")) 0 d.licences i)) i)) i)

  elements_are : AreDistinct (element_ids d)
      → merged (elements_at [] (document_object d))
      ≡ files ++ (snippets ++ (packages ++ licences))
  elements_are distinct =
      merged_new [] (elements_at [] (document_object d)) (subst (AreNew []) (sym ids_are) distinct)
      ∙ flat_map-append (λ (e : ElementText). e.steps) file_list
      (snippet_list ++ (package_list ++ licence_list))
      ∙ (λ i. part_elements parts.File (place (codes "files")) 0 (items_by file_object d.files) i
      ++ (flat_map-append (λ (e : ElementText). e.steps) snippet_list (package_list ++ licence_list)
      ∙ (λ i. part_elements parts.Snippet (place (codes "snippets")) 0
      (items_by snippet_object d.snippets) i
      ++ (flat_map-append (λ (e : ElementText). e.steps) package_list licence_list
      ∙ (λ i. part_elements parts.Package (place (codes "packages")) 0
      (items_by package_object d.packages) i
      ++ part_elements parts.Extracted (place (codes "hasExtractedLicensingInfos")) 0
      (items_by licence_object d.licences) i)) i)) i)

  abbrev elements : List StepText
  elements = merged (elements_at [] (document_object d))

  elements_lined : AreDistinct (element_ids d) → (rest : List LineText)
      → lines_of elements ++ rest
      ≡ flat_map file_lines d.files ++ (flat_map snippet_lines d.snippets
      ++ (flat_map package_lines d.packages ++ (flat_map licence_lines d.licences ++ rest)))
  elements_lined distinct rest =
      ap (λ steps. lines_of steps ++ rest) (elements_are distinct)
      ∙ ap (λ l. l ++ rest)
      (flat_map-append lines_in files (snippets ++ (packages ++ licences))
      ∙ (λ i. files_lined i ++ (flat_map-append lines_in snippets (packages ++ licences)
      ∙ (λ i. snippets_lined (place (codes "snippets")) 0 d.snippets i
      ++ (flat_map-append lines_in packages licences
      ∙ (λ i. packages_lined i
      ++ licences_lined (place (codes "hasExtractedLicensingInfos")) 0 d.licences i)) i)) i))
      ∙ four_apart (flat_map file_lines d.files) (flat_map snippet_lines d.snippets)
      (flat_map package_lines d.packages) (flat_map licence_lines d.licences) rest

  pub document_lined : AreDistinct (element_ids d)
      → lines_of (document_steps (document_object d)) ≡ document_lines d
  document_lined distinct =
      flat_map-append lines_in (object_steps [] document_members (document_object d))
      (creation ++ (elements ++ (described ++ edges)))
      ∙ ap (λ l. lines_of (object_steps [] document_members (document_object d)) ++ l)
      (flat_map-append lines_in creation (elements ++ (described ++ edges))
      ∙ (λ i. creators_lined i
      ++ (flat_map-append lines_in elements (described ++ edges)
      ∙ ap (λ l. lines_of elements ++ l) (flat_map-append lines_in described edges
      ∙ (λ i. all_described i ++ edges_lined i))
      ∙ elements_lined distinct (edge_lines d)) i))
