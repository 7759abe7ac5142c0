-- The document of a draft's fields says what the draft says.
use Rattle.std.proofs.Common.{◌≡◌, ◌∙◌, ℕ, ◌+◌, ◌≤◌, List, [], ◌∷◌, ◌++◌, length, sym, subst, ap}
use Rattle.std.proofs.Common.{refl, false, cond, Some, None, Ok, IsUtf8}
use Rattle.std.specs.Prelude.{All, codes, map, filter}
use Rattle.std.proofs.lemmas.List.Elements.{All-head, All-tail}
use Rattle.hex.specs.Hex.{encode_lower}
use Rattle.desk_fields.specs.declared.tag.Tag.{Tag}
use Rattle.desk_fields.specs.declared.tag.Tag.TheVariants as tags
use Rattle.desk_fields.specs.Tags.{same_tag}
use Rattle.desk_fields.specs.declared.fault.DocFault.TheVariants as faults
use Rattle.desk_tagvalue.specs.declared.drafts.Draft.{Draft}
use Rattle.desk_tagvalue.specs.declared.drafts.DraftFile.{DraftFile}
use Rattle.desk_tagvalue.specs.Entries.{EntryText, value_of, read_entry}
use Rattle.desk_tagvalue.specs.Faults.{first_fault, first_of}
use Rattle.desk_tagvalue.specs.Missing.{missing_of, missing_of_document, missing_of_elements, is_absent}
use Rattle.desk_tagvalue.specs.Parts.{head_of, Section, section_at, sections_of, begins_with}
use Rattle.desk_tagvalue.specs.Parts.{parts_of, package_of, file_of, snippet_of, extracted_of}
use Rattle.desk_tagvalue.specs.Parts.{edge_of, edges_of, DocumentText, document_of, text_of}
use Rattle.desk_tagvalue.specs.Parts.{sha1_of}
use Rattle.desk_base.specs.Limits.{document_bytes}
use Rattle.desk_tagvalue.specs.Documents.{judged, unless, Spells, fields}
use Rattle.desk_tagvalue.specs.Drafts.{draft_lines}
use Rattle.desk_tagvalue.specs.Written.{Adds, IsDigestRead, fields_of_lines}
use Rattle.desk_tagvalue.specs.Given.{AreFiles, IsPackage, IsOnlyPackage, IsOnlyEdge, GivesDraft}
use Rattle.desk_tagvalue.proofs.PartsLemmas.{head_inside}
use Rattle.desk_tagvalue.proofs.DraftEntries.{entry, file_id, AreFileEntries, Places}
use Rattle.desk_tagvalue.proofs.DraftEntries.{package_entries, head_entries, entries_of_draft}
use Rattle.desk_tagvalue.proofs.DraftRead.{draft_sound}
use Rattle.desk_tagvalue.proofs.LinesReread.{draft_again}

-- an element whose next field is its identifier doesn't lack one
present : (n : ℕ) (v : List ℕ) (es : List EntryText)
    → is_absent tags.Identifier (head_of (entry n tags.Identifier v ∷ es)) ≡ false
present n v es = ap (is_absent tags.Identifier) (head_inside (entry n tags.Identifier v) es refl)

files_named : (k : ℕ) (fs : List DraftFile) (es : List EntryText) → AreFileEntries k fs es
    → missing_of_elements es ≡ None
files_named k [] es is = ap missing_of_elements is
files_named k (f ∷ fs) es is =
    let others = entry is.2 tags.FileChecksum (codes "SHA1: " ++ encode_lower f.digest)
    ∷ entry is.3 tags.FileConcluded f.concluded ∷ entry is.4 tags.FileCopyright f.copyright
    ∷ is.5 in
    ap missing_of_elements is.6 ∙ ap (λ v. cond v (Some (faults.Missing is.0 tags.Identifier))
    (missing_of_elements is.5)) (present is.1 (file_id k) others)
    ∙ files_named (k + 1) fs is.5 is.7

elements_named : (d : Draft) (p : Places) (rest : List EntryText) → AreFileEntries 1 d.files rest
    → missing_of_elements (head_entries d p rest) ≡ None
elements_named d p rest is =
    let others = entry p.j tags.DownloadLocation (codes "NOASSERTION")
    ∷ entry p.k tags.FilesAnalyzed (codes "true") ∷ entry p.l tags.VerificationCode d.code
    ∷ entry p.m tags.PackageConcluded d.concluded ∷ entry p.n tags.PackageCopyright d.copyright
    ∷ entry p.o tags.Relationship (codes "SPDXRef-DOCUMENT DESCRIBES SPDXRef-Package") ∷ rest in
    ap (λ v. cond v (Some (faults.Missing p.h tags.Identifier)) (missing_of_elements rest))
    (present p.i (codes "SPDXRef-Package") others) ∙ files_named 1 d.files rest is

document_named : (d : Draft) (p : Places) (rest : List EntryText)
    → missing_of_document (head_entries d p rest) ≡ None
document_named d p rest = refl

-- the files begin sections of their own
pub head_of_files : (k : ℕ) (fs : List DraftFile) (es : List EntryText) → AreFileEntries k fs es
    → head_of es ≡ []
head_of_files k [] es is = ap head_of is
head_of_files k (f ∷ fs) es is = ap head_of is.6

other_parts : {T : Type 0} (tag : Tag) (says : Section → T) → same_tag tags.FileName tag ≡ false
    → (k : ℕ) (fs : List DraftFile) (es : List EntryText) → AreFileEntries k fs es
    → parts_of tag says es ≡ []
other_parts tag says other k [] es is = ap (parts_of tag says) is
other_parts tag says other k (f ∷ fs) es is =
    let e2 = entry is.1 tags.Identifier (file_id k) in
    let e3 = entry is.2 tags.FileChecksum (codes "SHA1: " ++ encode_lower f.digest) in
    let e4 = entry is.3 tags.FileConcluded f.concluded in
    let e5 = entry is.4 tags.FileCopyright f.copyright in
    let s = section_at (entry is.0 tags.FileName (codes "./" ++ f.path))
    (e2 ∷ e3 ∷ e4 ∷ e5 ∷ is.5) in
    ap (parts_of tag says) is.6 ∙ ap (λ v. map says
    (cond v (s ∷ filter (begins_with tag) (sections_of is.5))
    (filter (begins_with tag) (sections_of is.5)))) other
    ∙ other_parts tag says other (k + 1) fs is.5 is.7

no_edges : (k : ℕ) (fs : List DraftFile) (es : List EntryText) → AreFileEntries k fs es
    → edges_of es ≡ []
no_edges k [] es is = ap edges_of is
no_edges k (f ∷ fs) es is = ap edges_of is.6 ∙ no_edges (k + 1) fs is.5 is.7

file_head : (k : ℕ) (f : DraftFile) (b c d e : ℕ) (rest : List EntryText) → head_of rest ≡ []
    → head_of (entry b tags.Identifier (file_id k)
    ∷ entry c tags.FileChecksum (codes "SHA1: " ++ encode_lower f.digest)
    ∷ entry d tags.FileConcluded f.concluded ∷ entry e tags.FileCopyright f.copyright ∷ rest)
    ≡ entry b tags.Identifier (file_id k)
    ∷ entry c tags.FileChecksum (codes "SHA1: " ++ encode_lower f.digest)
    ∷ entry d tags.FileConcluded f.concluded ∷ entry e tags.FileCopyright f.copyright ∷ []
file_head k f b c d e rest none =
    let e2 = entry b tags.Identifier (file_id k) in
    let e3 = entry c tags.FileChecksum (codes "SHA1: " ++ encode_lower f.digest) in
    let e4 = entry d tags.FileConcluded f.concluded in
    let e5 = entry e tags.FileCopyright f.copyright in
    head_inside e2 (e3 ∷ e4 ∷ e5 ∷ rest) refl
    ∙ ap (λ l. e2 ∷ l) (head_inside e3 (e4 ∷ e5 ∷ rest) refl
    ∙ ap (λ l. e3 ∷ l) (head_inside e4 (e5 ∷ rest) refl
    ∙ ap (λ l. e4 ∷ l) (head_inside e5 rest refl ∙ ap (λ l. e5 ∷ l) none)))

files_given : (k : ℕ) (fs : List DraftFile) (es : List EntryText) → AreFileEntries k fs es
    → All IsDigestRead fs → AreFiles k fs (parts_of tags.FileName file_of es)
files_given k [] es is digests = subst (λ l. AreFiles k [] (parts_of tags.FileName file_of l))
    (sym is) tt
files_given k (f ∷ fs) es is digests =
    let h = file_head k f is.1 is.2 is.3 is.4 is.5 (head_of_files (k + 1) fs is.5 is.7) in
    subst (λ l. AreFiles k (f ∷ fs) (parts_of tags.FileName file_of l)) (sym is.6) (
      record {
        name = refl;
        id = ap (text_of tags.Identifier) h;
        sha1 = ap sha1_of h ∙ All-head IsDigestRead f fs digests;
        concluded = ap (value_of tags.FileConcluded) h;
        copyright = ap (value_of tags.FileCopyright) h;
      },
      files_given (k + 1) fs is.5 is.7 (All-tail IsDigestRead f fs digests),
    )

pub package_head : (d : Draft) (p : Places) (rest : List EntryText) → head_of rest ≡ []
    → head_of (package_entries d p rest) ≡ package_entries d p []
package_head d p rest none =
    let e1 = entry p.i tags.Identifier (codes "SPDXRef-Package") in
    let e2 = entry p.j tags.DownloadLocation (codes "NOASSERTION") in
    let e3 = entry p.k tags.FilesAnalyzed (codes "true") in
    let e4 = entry p.l tags.VerificationCode d.code in
    let e5 = entry p.m tags.PackageConcluded d.concluded in
    let e6 = entry p.n tags.PackageCopyright d.copyright in
    let e7 = entry p.o tags.Relationship (codes "SPDXRef-DOCUMENT DESCRIBES SPDXRef-Package") in
    head_inside e1 (e2 ∷ e3 ∷ e4 ∷ e5 ∷ e6 ∷ e7 ∷ rest) refl
    ∙ ap (λ l. e1 ∷ l) (head_inside e2 (e3 ∷ e4 ∷ e5 ∷ e6 ∷ e7 ∷ rest) refl
    ∙ ap (λ l. e2 ∷ l) (head_inside e3 (e4 ∷ e5 ∷ e6 ∷ e7 ∷ rest) refl
    ∙ ap (λ l. e3 ∷ l) (head_inside e4 (e5 ∷ e6 ∷ e7 ∷ rest) refl
    ∙ ap (λ l. e4 ∷ l) (head_inside e5 (e6 ∷ e7 ∷ rest) refl
    ∙ ap (λ l. e5 ∷ l) (head_inside e6 (e7 ∷ rest) refl
    ∙ ap (λ l. e6 ∷ l) (head_inside e7 rest refl ∙ ap (λ l. e7 ∷ l) none))))))

package_given : (d : Draft) (p : Places) (rest : List EntryText) → AreFileEntries 1 d.files rest
    → IsOnlyPackage d (parts_of tags.PackageName package_of (head_entries d p rest))
package_given d p rest is =
    let h = package_head d p rest (head_of_files 1 d.files rest is) in
    let x = package_of (section_at (entry p.h tags.PackageName d.name)
    (package_entries d p rest)) in
    let given : IsPackage d x = record {
      name = refl;
      id = ap (text_of tags.Identifier) h;
      code = ap (value_of tags.VerificationCode) h;
      concluded = ap (value_of tags.PackageConcluded) h;
      copyright = ap (value_of tags.PackageCopyright) h;
    } in
    subst (λ l. IsOnlyPackage d (x ∷ l))
    (sym (other_parts tags.PackageName package_of refl 1 d.files rest is)) given

edge_given : (d : Draft) (p : Places) (rest : List EntryText) → AreFileEntries 1 d.files rest
    → IsOnlyEdge (edges_of (head_entries d p rest))
edge_given d p rest is =
    let x = edge_of (entry p.o tags.Relationship
    (codes "SPDXRef-DOCUMENT DESCRIBES SPDXRef-Package")) in
    subst (λ l. IsOnlyEdge (x ∷ l)) (sym (no_edges 1 d.files rest is)) (refl, refl, refl)

pub draft_given : (d : Draft) (p : Places) (rest : List EntryText) → AreFileEntries 1 d.files rest
    → All IsDigestRead d.files → GivesDraft d (document_of (head_entries d p rest))
draft_given d p rest is digests = record {
  name = refl;
  namespace = refl;
  created = refl;
  packages = package_given d p rest is;
  files = files_given 1 d.files rest is digests;
  snippets = other_parts tags.SnippetIdentifier snippet_of refl 1 d.files rest is;
  extracted = other_parts tags.LicenseIdentifier extracted_of refl 1 d.files rest is;
  edges = edge_given d p rest is;
}

-- a draft's text spells a document that says what the draft says
pub draft_read : (d : Draft) (t : List ℕ) → Adds [] (draft_lines d) t → IsUtf8 t
    → length t ≤ document_bytes → length d.files ≤ 9999 → All IsDigestRead d.files
    → (x : DocumentText) × Spells t (Ok x) × GivesDraft d x
draft_read d t adds utf8 small few digests =
    let w = entries_of_draft d in
    let es = head_entries d w.0 w.1 in
    let none : first_of (first_fault [] es) (missing_of es) ≡ None =
    ap (λ o. first_of o (missing_of es)) (draft_sound d w.0 w.1 w.3 few)
    ∙ ap (λ o. first_of o (missing_of_elements es)) (document_named d w.0 w.1)
    ∙ elements_named d w.0 w.1 w.3 in
    let is : judged (map read_entry (fields_of_lines 1 (draft_lines d))) ≡ Ok (document_of es) =
    ap judged w.2 ∙ ap (λ o. unless o (document_of es)) none in (
      document_of es,
      subst (Spells t) is (fields t (fields_of_lines 1 (draft_lines d)) small utf8
          (draft_again d t adds)),
      draft_given d w.0 w.1 w.3 digests,
    )
