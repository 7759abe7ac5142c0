-- What each part of a document that is read has, field by field, by the names of the standard.
use Rattle.std.specs.Prelude.{◌≡◌, ◌≤◌, ℕ, List, [], ◌∷◌, Option, codes, count_by, filter, unwrap_or, All}
use Rattle.desk_fields.specs.Tags.{tag_of}
use Rattle.desk_fields.specs.declared.tag.Tag.{Tag}
use Rattle.desk_fields.specs.declared.tag.Tag.TheVariants as tags
use Rattle.desk_tagvalue.specs.Entries.{EntryText, value_of}
use Rattle.desk_tagvalue.specs.Faults.{has_tag}
use Rattle.desk_tagvalue.specs.Parts.{DocumentText, ExtractedText, FileText, PackageText, Section, SnippetText}
use Rattle.desk_tagvalue.specs.Parts.{begins_with, head_of, sections_of, sha1_of}

-- each of the tags at most once
abbrev pub AreOnce : List Tag → List EntryText → Type 0
AreOnce [] es = Unit {0}
AreOnce (tag ∷ more) es = (count_by (has_tag tag) es ≤ 1) × AreOnce more es

-- in a section of a package (clause 7), a file (clause 8) or an extracted licence (clause 10)
abbrev pub AreOnceIn : Tag → List EntryText → Type 0
AreOnceIn tags.PackageName es = AreOnce (tags.Identifier ∷ tags.PackageVersion
    ∷ tags.DownloadLocation ∷ tags.FilesAnalyzed ∷ tags.VerificationCode ∷ tags.PackageConcluded
    ∷ tags.PackageDeclared ∷ tags.PackageCopyright ∷ []) es
AreOnceIn tags.FileName es = AreOnce (tags.Identifier ∷ tags.FileConcluded ∷ tags.FileCopyright
    ∷ []) es
AreOnceIn tags.LicenseIdentifier es = AreOnce (tags.ExtractedText ∷ []) es
AreOnceIn _ es = Unit {0}

-- a field of the document itself once in the document (clause 6), its identifier once before the
-- first section, and each other field once in its section; Creator, FileChecksum,
-- LicenseInfoInFile and Relationship may occur more often
pub record HaveEachOnce (es : List EntryText) : Type 0 where
  pub document : AreOnce (tags.Version ∷ tags.DataLicense ∷ tags.DocumentName
      ∷ tags.DocumentNamespace ∷ tags.Created ∷ []) es
  pub identifier : AreOnce (tags.Identifier ∷ []) (head_of es)
  pub sections : All (λ s. AreOnceIn s.start.tag s.fields) (sections_of es)

-- ---- columns

-- the value of the field with this name
abbrev pub named : List ℕ → List EntryText → Option (List ℕ)
named name es = value_of (tag_of name) es

-- the same, or the empty text if there is no such field
abbrev pub named_or_empty : List ℕ → List EntryText → List ℕ
named_or_empty name es = unwrap_or (named name es) []

-- the package that a section says (clause 7), each column by its tag: a field that is absent is
-- none, but an absent SPDXID is an empty id
pub record IsPackageOf (s : Section) (p : PackageText) : Type 0 where
  pub line : p.line ≡ s.start.line
  pub name : p.name ≡ s.start.value
  pub id : p.id ≡ named_or_empty (codes "SPDXID") s.fields
  pub version : p.version ≡ named (codes "PackageVersion") s.fields
  pub download_location : p.download_location ≡ named (codes "PackageDownloadLocation") s.fields
  pub files_analyzed : p.files_analyzed ≡ named (codes "FilesAnalyzed") s.fields
  pub verification_code : p.verification_code ≡ named (codes "PackageVerificationCode") s.fields
  pub concluded : p.concluded ≡ named (codes "PackageLicenseConcluded") s.fields
  pub declared : p.declared ≡ named (codes "PackageLicenseDeclared") s.fields
  pub copyright : p.copyright ≡ named (codes "PackageCopyrightText") s.fields

-- the file that a section says (clause 8); of its checksums only the first SHA1 counts
pub record IsFileOf (s : Section) (f : FileText) : Type 0 where
  pub line : f.line ≡ s.start.line
  pub name : f.name ≡ s.start.value
  pub id : f.id ≡ named_or_empty (codes "SPDXID") s.fields
  pub sha1 : f.sha1 ≡ sha1_of s.fields
  pub concluded : f.concluded ≡ named (codes "LicenseConcluded") s.fields
  pub copyright : f.copyright ≡ named (codes "FileCopyrightText") s.fields

-- the snippet that a section says (clause 9); the identifier is on the line that begins it
pub record IsSnippetOf (s : Section) (x : SnippetText) : Type 0 where
  pub line : x.line ≡ s.start.line
  pub id : x.id ≡ s.start.value

-- the extracted licence that a section says (clause 10)
pub record IsExtractedOf (s : Section) (x : ExtractedText) : Type 0 where
  pub line : x.line ≡ s.start.line
  pub id : x.id ≡ s.start.value
  pub text : x.text ≡ named (codes "ExtractedText") s.fields

-- one for each section, in their order
abbrev pub AreEach : {A B : Type 0} → (A → B → Type 0) → List A → List B → Type 0
AreEach Is [] [] = Unit {0}
AreEach Is [] (y ∷ ys) = ⊥
AreEach Is (x ∷ xs) [] = ⊥
AreEach Is (x ∷ xs) (y ∷ ys) = Is x y × AreEach Is xs ys

-- the sections that a field with this name begins
abbrev pub begun_by : List ℕ → List EntryText → List Section
begun_by name es = filter (begins_with (tag_of name)) (sections_of es)

-- a document's name and namespace, and its packages, files, snippets and extracted licences, each
-- in the order of the text
pub record HasColumns (d : DocumentText) : Type 0 where
  pub name : d.name ≡ named_or_empty (codes "DocumentName") d.entries
  pub namespace : d.namespace ≡ named_or_empty (codes "DocumentNamespace") d.entries
  pub packages : AreEach IsPackageOf (begun_by (codes "PackageName") d.entries) d.packages
  pub files : AreEach IsFileOf (begun_by (codes "FileName") d.entries) d.files
  pub snippets : AreEach IsSnippetOf (begun_by (codes "SnippetSPDXID") d.entries) d.snippets
  pub extracted : AreEach IsExtractedOf (begun_by (codes "LicenseID") d.entries) d.extracted
