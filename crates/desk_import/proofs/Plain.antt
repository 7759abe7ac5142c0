-- Fields apart from their lines: what a document says doesn't depend on the lines.
use Rattle.std.proofs.Common.{◌≡◌, ◌∙◌, ℕ, ◌+◌, Bool, true, false, cond, List, [], ◌∷◌, map, Some, refl, sym, ap, subst}
use Rattle.std.specs.Prelude.{◌&&◌, drop, filter, unwrap_or}
use Rattle.std.specs.List.{flat_map}
use Rattle.std.proofs.lemmas.List.Sums.{take_while-cons}
use Rattle.desk_fields.specs.Tags.{same_tag, tag_name, tag_of}
use Rattle.desk_fields.specs.declared.tag.Tag.{Tag}
use Rattle.desk_fields.specs.declared.tag.Tag.TheVariants as tags
use Rattle.desk_tagvalue.specs.Columns.{AreEach}
use Rattle.desk_tagvalue.specs.Drafts.{LineText, blank, one_line, in_text, spelled}
use Rattle.desk_tagvalue.specs.Entries.{EntryText, read_entry, value_of}
use Rattle.desk_tagvalue.specs.Faults.{begins, has_tag}
use Rattle.desk_tagvalue.specs.Parts.{Section, begins_with, document_of, edge_of, extracted_of, file_of}
use Rattle.desk_tagvalue.specs.Parts.{head_of, is_edge, is_inside, is_sha1, package_of, parts_of}
use Rattle.desk_tagvalue.specs.Parts.{section_at, sections_of, sha1_of, snippet_of}
use Rattle.desk_tagvalue.specs.Written.{feeds, fields_of_lines}
use Rattle.desk_import.specs.Said.{DocumentSaid, EdgeSaid, FileSaid, IsEdge, IsFile, IsLicence}
use Rattle.desk_import.specs.Said.{IsPackage, IsSaid, IsSnippet, LicenceSaid, PackageSaid, edges_said}
use Rattle.desk_import.specs.Said.{values_of}

abbrev pub plain : EntryText → EntryText
plain e = record { line = 0; tag = e.tag; value = e.value }

-- ---- fields

value_plain : (tag : Tag) (es : List EntryText) → value_of tag (map plain es) ≡ value_of tag es
value_plain tag [] = refl
value_plain tag (e ∷ es) = ap (λ o. cond (same_tag e.tag tag) (Some e.value) o) (value_plain tag es)

sha1_plain : (es : List EntryText) → sha1_of (map plain es) ≡ sha1_of es
sha1_plain [] = refl
sha1_plain (e ∷ es) = ap (λ o. cond (same_tag e.tag tags.FileChecksum && is_sha1 e.value)
    (Some (drop 6 e.value)) o) (sha1_plain es)

filter_plain : (tag : Tag) (es : List EntryText)
    → filter (has_tag tag) (map plain es) ≡ map plain (filter (has_tag tag) es)
filter_plain tag [] = refl
filter_plain tag (e ∷ es) = by_test (has_tag tag e) (filter_plain tag es)
  where
    by_test : (b : Bool)
        → filter (has_tag tag) (map plain es) ≡ map plain (filter (has_tag tag) es)
        → cond b (plain e ∷ filter (has_tag tag) (map plain es)) (filter (has_tag tag) (map plain es))
        ≡ map plain (cond b (e ∷ filter (has_tag tag) es) (filter (has_tag tag) es))
    by_test true more = ap (λ l. plain e ∷ l) more
    by_test false more = more

same_values : (es : List EntryText)
    → map (λ (e : EntryText). e.value) (map plain es) ≡ map (λ (e : EntryText). e.value) es
same_values [] = refl
same_values (e ∷ es) = ap (λ l. e.value ∷ l) (same_values es)

values_plain : (tag : Tag) (es : List EntryText) → values_of tag (map plain es) ≡ values_of tag es
values_plain tag es = ap (map (λ (e : EntryText). e.value)) (filter_plain tag es)
    ∙ same_values (filter (has_tag tag) es)

-- ---- sections

head_plain : (es : List EntryText) → head_of (map plain es) ≡ map plain (head_of es)
head_plain [] = refl
head_plain (e ∷ es) =
    take_while-cons is_inside (plain e) (map plain es) ∙ by_test (is_inside e) (head_plain es)
    ∙ ap (map plain) (sym (take_while-cons is_inside e es))
  where
    by_test : (b : Bool) → head_of (map plain es) ≡ map plain (head_of es)
        → cond b (plain e ∷ head_of (map plain es)) [] ≡ map plain (cond b (e ∷ head_of es) [])
    by_test true more = ap (λ l. plain e ∷ l) more
    by_test false more = refl

abbrev plain_section : Section → Section
plain_section s = record { start = plain s.start; fields = map plain s.fields }

sections_plain : (es : List EntryText)
    → sections_of (map plain es) ≡ map plain_section (sections_of es)
sections_plain [] = refl
sections_plain (e ∷ es) = by_test (begins e) (sections_plain es)
  where
    by_test : (b : Bool) → sections_of (map plain es) ≡ map plain_section (sections_of es)
        → cond b (section_at (plain e) (map plain es) ∷ sections_of (map plain es))
        (sections_of (map plain es))
        ≡ map plain_section (cond b (section_at e es ∷ sections_of es) (sections_of es))
    by_test true more = λ i. record { start = plain e; fields = head_plain es i } ∷ more i
    by_test false more = more

begun_plain : (tag : Tag) (ss : List Section)
    → filter (begins_with tag) (map plain_section ss)
    ≡ map plain_section (filter (begins_with tag) ss)
begun_plain tag [] = refl
begun_plain tag (s ∷ ss) = by_test (begins_with tag s) (begun_plain tag ss)
  where
    by_test : (b : Bool) → filter (begins_with tag) (map plain_section ss)
        ≡ map plain_section (filter (begins_with tag) ss)
        → cond b (plain_section s ∷ filter (begins_with tag) (map plain_section ss))
        (filter (begins_with tag) (map plain_section ss))
        ≡ map plain_section (cond b (s ∷ filter (begins_with tag) ss) (filter (begins_with tag) ss))
    by_test true more = ap (λ l. plain_section s ∷ l) more
    by_test false more = more

each_plain : {A B S : Type 0} (Is : A → B → Type 0) (says : S → B) (made_plain : S → S)
    → ((x : A) (s : S) → Is x (says (made_plain s)) → Is x (says s))
    → (xs : List A) (ss : List S) → AreEach Is xs (map says (map made_plain ss))
    → AreEach Is xs (map says ss)
each_plain Is says made_plain back [] [] h = tt
each_plain Is says made_plain back [] (s ∷ ss) h = h
each_plain Is says made_plain back (x ∷ xs) [] h = h
each_plain Is says made_plain back (x ∷ xs) (s ∷ ss) h =
    (back x s h.0, each_plain Is says made_plain back xs ss h.1)

parts_plain : {A B : Type 0} (Is : A → B → Type 0) (says : Section → B)
    → ((x : A) (s : Section) → Is x (says (plain_section s)) → Is x (says s))
    → (tag : Tag) (xs : List A) (es : List EntryText)
    → AreEach Is xs (parts_of tag says (map plain es)) → AreEach Is xs (parts_of tag says es)
parts_plain Is says back tag xs es h =
    each_plain Is says plain_section back xs (filter (begins_with tag) (sections_of es))
    (subst (λ ss. AreEach Is xs (map says ss))
    (ap (filter (begins_with tag)) (sections_plain es) ∙ begun_plain tag (sections_of es)) h)

-- ---- the parts of a document

package_back : (p : PackageSaid) (s : Section) → IsPackage p (package_of (plain_section s))
    → IsPackage p (package_of s)
package_back p s h = record {
  name = h.name;
  id = ap (λ o. unwrap_or o []) (sym (value_plain tags.Identifier s.fields)) ∙ h.id;
  version = sym (value_plain tags.PackageVersion s.fields) ∙ h.version;
  download_location =
      sym (value_plain tags.DownloadLocation s.fields) ∙ h.download_location;
  files_analyzed = sym (value_plain tags.FilesAnalyzed s.fields) ∙ h.files_analyzed;
  verification_code = sym (value_plain tags.VerificationCode s.fields) ∙ h.verification_code;
  concluded = sym (value_plain tags.PackageConcluded s.fields) ∙ h.concluded;
  declared = sym (value_plain tags.PackageDeclared s.fields) ∙ h.declared;
  copyright = sym (value_plain tags.PackageCopyright s.fields) ∙ h.copyright;
}

file_back : (f : FileSaid) (s : Section) → IsFile f (file_of (plain_section s))
    → IsFile f (file_of s)
file_back f s h = record {
  name = h.name;
  id = ap (λ o. unwrap_or o []) (sym (value_plain tags.Identifier s.fields)) ∙ h.id;
  sha1 = sym (sha1_plain s.fields) ∙ h.sha1;
  concluded = sym (value_plain tags.FileConcluded s.fields) ∙ h.concluded;
  copyright = sym (value_plain tags.FileCopyright s.fields) ∙ h.copyright;
}

licence_back : (l : LicenceSaid) (s : Section) → IsLicence l (extracted_of (plain_section s))
    → IsLicence l (extracted_of s)
licence_back l s h = record {
  id = h.id;
  text = sym (value_plain tags.ExtractedText s.fields) ∙ h.text;
}

edge_back : (x : EdgeSaid) (e : EntryText) → IsEdge x (edge_of (plain e)) → IsEdge x (edge_of e)
edge_back x e h = record { left = h.left; kind = h.kind; right = h.right }

pub said_plain : (d : DocumentSaid) (es : List EntryText) → IsSaid d (document_of (map plain es))
    → IsSaid d (document_of es)
said_plain d es h = record {
  version = sym (value_plain tags.Version es) ∙ h.version;
  data_license = sym (value_plain tags.DataLicense es) ∙ h.data_license;
  id = sym (value_plain tags.Identifier es) ∙ h.id;
  name = ap (λ o. unwrap_or o []) (sym (value_plain tags.DocumentName es)) ∙ h.name;
  namespace = ap (λ o. unwrap_or o []) (sym (value_plain tags.DocumentNamespace es)) ∙ h.namespace;
  creators = sym (values_plain tags.Creator es) ∙ h.creators;
  created = sym (value_plain tags.Created es) ∙ h.created;
  packages = parts_plain IsPackage package_of package_back tags.PackageName d.packages es h.packages;
  files = parts_plain IsFile file_of file_back tags.FileName d.files es h.files;
  in_files = sym (values_plain tags.FileLicense es) ∙ h.in_files;
  snippets = parts_plain IsSnippet snippet_of (λ x s is. is) tags.SnippetIdentifier d.snippets es
      h.snippets;
  licences = parts_plain IsLicence extracted_of licence_back tags.LicenseIdentifier d.licences es
      h.licences;
  edges = each_plain IsEdge edge_of plain edge_back (edges_said d) (filter is_edge es)
      (subst (λ l. AreEach IsEdge (edges_said d) (map edge_of l))
      (filter_plain tags.Relationship es) h.edges);
}

-- ---- the fields of lines

abbrev pub field : Tag → List ℕ → EntryText
field tag value = record { line = 0; tag = tag; value = value }

abbrev pub field_in : LineText → List EntryText
field_in blank = []
field_in (one_line tag value) = field (tag_of (tag_name tag)) value ∷ []
field_in (in_text tag value) = field (tag_of (tag_name tag)) value ∷ []

pub plain_lines : (n : ℕ) (ls : List LineText)
    → map plain (map read_entry (fields_of_lines n ls)) ≡ flat_map field_in ls
plain_lines n [] = refl
plain_lines n (blank ∷ ls) = plain_lines (n + feeds (spelled blank)) ls
plain_lines n (one_line tag value ∷ ls) = ap (λ l. field (tag_of (tag_name tag)) value ∷ l)
    (plain_lines (n + feeds (spelled (one_line tag value))) ls)
plain_lines n (in_text tag value ∷ ls) = ap (λ l. field (tag_of (tag_name tag)) value ∷ l)
    (plain_lines (n + feeds (spelled (in_text tag value))) ls)
