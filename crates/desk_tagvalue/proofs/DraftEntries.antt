-- The fields of a draft, with their tags read.
use Rattle.std.proofs.Common.{◌≡◌, ℕ, ◌+◌, List, [], ◌∷◌, ◌++◌, ap, refl, Bool, true, false, cond}
use Rattle.std.specs.Prelude.{codes, map}
use Rattle.std.specs.Str.{bytes_eq}
use Rattle.std.specs.Fmt.{decimal}
use Rattle.hex.specs.Hex.{encode_lower}
use Rattle.desk_fields.specs.declared.tag.Tag.{Tag}
use Rattle.desk_fields.specs.declared.tag.Tag.TheVariants as tags
use Rattle.desk_fields.specs.Tags.{tag_name}
use Rattle.desk_fields.specs.Cutting.{FieldText}
use Rattle.desk_tagvalue.specs.declared.drafts.Draft.{Draft}
use Rattle.desk_tagvalue.specs.declared.drafts.DraftFile.{DraftFile}
use Rattle.desk_tagvalue.specs.Entries.{EntryText, read_entry}
use Rattle.desk_tagvalue.specs.Drafts.{blank, one_line, in_text, spelled, copyright_line, files_lines, draft_lines}
use Rattle.desk_tagvalue.specs.Written.{field_at, feeds, onto_line, fields_of_lines}

abbrev pub entry : ℕ → Tag → List ℕ → EntryText
entry n tag value = record { line = n; tag = tag; value = value }

abbrev pub file_id : ℕ → List ℕ
file_id k = codes "SPDXRef-File-" ++ decimal k

-- the fields of a file, wherever its lines are
abbrev pub file_entries : ℕ → DraftFile → ℕ → ℕ → ℕ → ℕ → ℕ → List EntryText → List EntryText
file_entries k f a b c d e rest =
    entry a tags.FileName (codes "./" ++ f.path) ∷ entry b tags.Identifier (file_id k)
    ∷ entry c tags.FileChecksum (codes "SHA1: " ++ encode_lower f.digest)
    ∷ entry d tags.FileConcluded f.concluded ∷ entry e tags.FileCopyright f.copyright ∷ rest

abbrev pub AreFileEntries : ℕ → List DraftFile → List EntryText → Type 0
AreFileEntries k [] es = es ≡ []
AreFileEntries k (f ∷ fs) es =
    (a : ℕ) × (b : ℕ) × (c : ℕ) × (d : ℕ) × (e : ℕ) × (rest : List EntryText)
    × (es ≡ file_entries k f a b c d e rest) × AreFileEntries (k + 1) fs rest

-- a copyright is one field, however it is written
copyright_field : (n : ℕ) (tag : Tag) (value : List ℕ) (fs : List FieldText)
    → onto_line n (copyright_line tag value) fs ≡ field_at n (tag_name tag) value ∷ fs
copyright_field n tag value fs = by_form (bytes_eq value (codes "NOASSERTION"))
  where
    by_form : (v : Bool) → onto_line n (cond v (one_line tag value) (in_text tag value)) fs
        ≡ field_at n (tag_name tag) value ∷ fs
    by_form true = refl
    by_form false = refl

pub entries_of_files : (n k : ℕ) (fs : List DraftFile)
    → AreFileEntries k fs (map read_entry (fields_of_lines n (files_lines k fs)))
entries_of_files n k [] = refl
entries_of_files n k (f ∷ fs) =
    let a = n + feeds (spelled blank) in
    let b = a + feeds (spelled (one_line tags.FileName (codes "./" ++ f.path))) in
    let c = b + feeds (spelled (one_line tags.Identifier (file_id k))) in
    let d = c + feeds (spelled (one_line tags.FileChecksum
    (codes "SHA1: " ++ encode_lower f.digest))) in
    let e = d + feeds (spelled (one_line tags.FileConcluded f.concluded)) in
    let g = e + feeds (spelled (copyright_line tags.FileCopyright f.copyright)) in
    let rest = fields_of_lines g (files_lines (k + 1) fs) in (
      a,
      b,
      c,
      d,
      e,
      map read_entry rest,
      ap (λ l. entry a tags.FileName (codes "./" ++ f.path) ∷ entry b tags.Identifier (file_id k)
          ∷ entry c tags.FileChecksum (codes "SHA1: " ++ encode_lower f.digest)
          ∷ entry d tags.FileConcluded f.concluded ∷ map read_entry l)
          (copyright_field e tags.FileCopyright f.copyright rest),
      entries_of_files g (k + 1) fs,
    )

-- the fields of the document and its package, wherever their lines are
pub record Places : Type 0 where
  pub a : ℕ
  pub b : ℕ
  pub c : ℕ
  pub d : ℕ
  pub e : ℕ
  pub f : ℕ
  pub g : ℕ
  pub h : ℕ
  pub i : ℕ
  pub j : ℕ
  pub k : ℕ
  pub l : ℕ
  pub m : ℕ
  pub n : ℕ
  pub o : ℕ

abbrev pub package_entries : Draft → Places → List EntryText → List EntryText
package_entries d p rest =
    entry p.i tags.Identifier (codes "SPDXRef-Package")
    ∷ entry p.j tags.DownloadLocation (codes "NOASSERTION")
    ∷ entry p.k tags.FilesAnalyzed (codes "true") ∷ entry p.l tags.VerificationCode d.code
    ∷ entry p.m tags.PackageConcluded d.concluded
    ∷ entry p.n tags.PackageCopyright d.copyright
    ∷ entry p.o tags.Relationship (codes "SPDXRef-DOCUMENT DESCRIBES SPDXRef-Package") ∷ rest

abbrev pub head_entries : Draft → Places → List EntryText → List EntryText
head_entries d p rest =
    entry p.a tags.Version (codes "SPDX-2.3") ∷ entry p.b tags.DataLicense (codes "CC0-1.0")
    ∷ entry p.c tags.Identifier (codes "SPDXRef-DOCUMENT")
    ∷ entry p.d tags.DocumentName d.name ∷ entry p.e tags.DocumentNamespace d.namespace
    ∷ entry p.f tags.Creator (codes "Tool: licence-desk-1")
    ∷ entry p.g tags.Created d.created ∷ entry p.h tags.PackageName d.name
    ∷ package_entries d p rest

pub entries_of_draft : (d : Draft)
    → (p : Places) × (rest : List EntryText)
    × (map read_entry (fields_of_lines 1 (draft_lines d)) ≡ head_entries d p rest)
    × AreFileEntries 1 d.files rest
entries_of_draft x =
    let a : ℕ = 1 in
    let b = a + feeds (spelled (one_line tags.Version (codes "SPDX-2.3"))) in
    let c = b + feeds (spelled (one_line tags.DataLicense (codes "CC0-1.0"))) in
    let d = c + feeds (spelled (one_line tags.Identifier (codes "SPDXRef-DOCUMENT"))) in
    let e = d + feeds (spelled (one_line tags.DocumentName x.name)) in
    let f = e + feeds (spelled (one_line tags.DocumentNamespace x.namespace)) in
    let g = f + feeds (spelled (one_line tags.Creator (codes "Tool: licence-desk-1"))) in
    let y = g + feeds (spelled (one_line tags.Created x.created)) in
    let h = y + feeds (spelled blank) in
    let i = h + feeds (spelled (one_line tags.PackageName x.name)) in
    let j = i + feeds (spelled (one_line tags.Identifier (codes "SPDXRef-Package"))) in
    let k = j + feeds (spelled (one_line tags.DownloadLocation (codes "NOASSERTION"))) in
    let l = k + feeds (spelled (one_line tags.FilesAnalyzed (codes "true"))) in
    let m = l + feeds (spelled (one_line tags.VerificationCode x.code)) in
    let n = m + feeds (spelled (one_line tags.PackageConcluded x.concluded)) in
    let o = n + feeds (spelled (copyright_line tags.PackageCopyright x.copyright)) in
    let z = o + feeds (spelled (one_line tags.Relationship
    (codes "SPDXRef-DOCUMENT DESCRIBES SPDXRef-Package"))) in
    let p : Places = record {
      a = a;
      b = b;
      c = c;
      d = d;
      e = e;
      f = f;
      g = g;
      h = h;
      i = i;
      j = j;
      k = k;
      l = l;
      m = m;
      n = n;
      o = o;
    } in
    let rest = fields_of_lines z (files_lines 1 x.files) in
    let last = field_at o (tag_name tags.Relationship)
    (codes "SPDXRef-DOCUMENT DESCRIBES SPDXRef-Package") ∷ rest in (
      p,
      map read_entry rest,
      ap (λ l. entry p.a tags.Version (codes "SPDX-2.3")
          ∷ entry p.b tags.DataLicense (codes "CC0-1.0")
          ∷ entry p.c tags.Identifier (codes "SPDXRef-DOCUMENT")
          ∷ entry p.d tags.DocumentName x.name ∷ entry p.e tags.DocumentNamespace x.namespace
          ∷ entry p.f tags.Creator (codes "Tool: licence-desk-1")
          ∷ entry p.g tags.Created x.created ∷ entry p.h tags.PackageName x.name
          ∷ entry p.i tags.Identifier (codes "SPDXRef-Package")
          ∷ entry p.j tags.DownloadLocation (codes "NOASSERTION")
          ∷ entry p.k tags.FilesAnalyzed (codes "true") ∷ entry p.l tags.VerificationCode x.code
          ∷ entry p.m tags.PackageConcluded x.concluded
          ∷ map read_entry l) (copyright_field n tags.PackageCopyright x.copyright last),
      entries_of_files z 1 x.files,
    )
