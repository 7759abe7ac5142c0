-- What a document in normal form says: lists of elements of any length, each with all that the desk
-- reads of it. Its lines in tag-value form (SPDX 2.3, clauses 6 to 11), its object in JSON (the JSON
-- schema), and that a document which is read says the same.
use Rattle.std.specs.Prelude.{◌≡◌, ◌++◌, ℕ, Bool, true, false, List, [], ◌∷◌, Some, codes, map, filter, All}
use Rattle.std.specs.List.{flat_map}
use Rattle.serde_json.specs.Data.{Data, Items, boolean, string, array, object, no_items, item}
use Rattle.serde_json.specs.Data.{no_members, member}
use Rattle.desk_base.specs.TextSets.{is_among}
use Rattle.desk_fields.specs.declared.tag.Tag.{Tag}
use Rattle.desk_fields.specs.declared.tag.Tag.TheVariants as tags
use Rattle.desk_tagvalue.specs.Columns.{AreEach}
use Rattle.desk_tagvalue.specs.Drafts.{LineText, blank, one_line, in_text}
use Rattle.desk_tagvalue.specs.Entries.{EntryText, read_entry, value_of}
use Rattle.desk_tagvalue.specs.Faults.{has_tag}
use Rattle.desk_tagvalue.specs.Parts.{DocumentText, PackageText, FileText, SnippetText}
use Rattle.desk_tagvalue.specs.Parts.{ExtractedText, EdgeText, is_sha1}
use Rattle.desk_tagvalue.specs.Written.{fields_of_lines}
use Rattle.desk_spdx_json.specs.Documents.{is_describing}
use Rattle.desk_spdx_json.specs.Parts.{relationship_line}
use Rattle.desk_spdx_json.specs.Steps.{StepText}
use Rattle.desk_spdx_json.specs.Values.{copyright_line, flag_text}
use Rattle.desk_spdx_json.specs.Words.{is_word}
use Rattle.desk_spdx_json.specs.Steps.{lines_of}

-- the fields of lines, and of the lines of steps
abbrev pub fields_in : List LineText → List EntryText
fields_in lines = map read_entry (fields_of_lines 1 lines)

-- the fields of the lines that steps write
abbrev pub entries_of : List StepText → List EntryText
entries_of steps = fields_in (lines_of steps)

-- an array of the items of a list
abbrev pub items_by : {A : Type 0} → (A → Data) → List A → Items
items_by of_item [] = no_items
items_by of_item (x ∷ xs) = item (of_item x) (items_by of_item xs)

-- the array itself
abbrev pub array_by : {A : Type 0} → (A → Data) → List A → Data
array_by of_item xs = array (items_by of_item xs)

-- the values of all fields with a tag
abbrev pub values_of : Tag → List EntryText → List (List ℕ)
values_of tag es = map (λ (e : EntryText). e.value) (filter (has_tag tag) es)

-- ---- a package (clause 7), with the files that it contains

-- what the desk reads of a package, and the files that it lists as its own
pub record PackageSaid : Type 0 where
  pub name : List ℕ
  pub id : List ℕ
  pub version : List ℕ
  pub download_location : List ℕ
  pub files_analyzed : Bool
  pub code : List ℕ
  pub concluded : List ℕ
  pub declared : List ℕ
  pub copyright : List ℕ
  pub contained : List (List ℕ)

-- that a package contains a file
abbrev pub contains_line : List ℕ → List ℕ → LineText
contains_line id contained = relationship_line id (codes "CONTAINS") contained

-- the lines of a package; those for its files come right behind its fields
abbrev pub package_lines : PackageSaid → List LineText
package_lines p =
    blank
    ∷ one_line tags.PackageName p.name
    ∷ one_line tags.Identifier p.id
    ∷ one_line tags.PackageVersion p.version
    ∷ one_line tags.DownloadLocation p.download_location
    ∷ one_line tags.FilesAnalyzed (flag_text p.files_analyzed)
    ∷ one_line tags.VerificationCode p.code
    ∷ one_line tags.PackageConcluded p.concluded
    ∷ one_line tags.PackageDeclared p.declared
    ∷ copyright_line tags.PackageCopyright p.copyright
    ∷ map (contains_line p.id) p.contained

-- a verification code that excludes no file
abbrev pub code_object : List ℕ → Data
code_object code = object
    (member (codes "packageVerificationCodeValue") (string code) no_members)

-- the package in JSON, its members by key
abbrev pub package_object : PackageSaid → Data
package_object p = object
    (member (codes "SPDXID") (string p.id)
    (member (codes "copyrightText") (string p.copyright)
    (member (codes "downloadLocation") (string p.download_location)
    (member (codes "filesAnalyzed") (boolean p.files_analyzed)
    (member (codes "hasFiles") (array_by string p.contained)
    (member (codes "licenseConcluded") (string p.concluded)
    (member (codes "licenseDeclared") (string p.declared)
    (member (codes "name") (string p.name)
    (member (codes "packageVerificationCode") (code_object p.code)
    (member (codes "versionInfo") (string p.version) no_members))))))))))

-- the package that is read says the same
pub record IsPackage (p : PackageSaid) (q : PackageText) : Type 0 where
  pub name : q.name ≡ p.name
  pub id : q.id ≡ p.id
  pub version : q.version ≡ Some p.version
  pub download_location : q.download_location ≡ Some p.download_location
  pub files_analyzed : q.files_analyzed ≡ Some (flag_text p.files_analyzed)
  pub verification_code : q.verification_code ≡ Some p.code
  pub concluded : q.concluded ≡ Some p.concluded
  pub declared : q.declared ≡ Some p.declared
  pub copyright : q.copyright ≡ Some p.copyright

-- ---- a file (clause 8)

-- what the desk reads of a file
pub record FileSaid : Type 0 where
  pub name : List ℕ
  pub id : List ℕ
  pub sha1 : List ℕ
  pub concluded : List ℕ
  pub in_file : List (List ℕ)
  pub copyright : List ℕ

-- the lines of a file
abbrev pub file_lines : FileSaid → List LineText
file_lines f =
    blank
    ∷ one_line tags.FileName f.name
    ∷ one_line tags.Identifier f.id
    ∷ one_line tags.FileChecksum (codes "SHA1: " ++ f.sha1)
    ∷ one_line tags.FileConcluded f.concluded
    ∷ (map (one_line tags.FileLicense) f.in_file ++ copyright_line tags.FileCopyright f.copyright ∷ [])

-- its SHA1 in JSON
abbrev pub checksum_object : List ℕ → Data
checksum_object digits = object
    (member (codes "algorithm") (string (codes "SHA1"))
    (member (codes "checksumValue") (string digits) no_members))

-- the file in JSON, its members by key
abbrev pub file_object : FileSaid → Data
file_object f = object
    (member (codes "SPDXID") (string f.id)
    (member (codes "checksums") (array_by checksum_object (f.sha1 ∷ []))
    (member (codes "copyrightText") (string f.copyright)
    (member (codes "fileName") (string f.name)
    (member (codes "licenseConcluded") (string f.concluded)
    (member (codes "licenseInfoInFiles") (array_by string f.in_file) no_members))))))

-- the file that is read says the same; licences in it are compared for all files together
pub record IsFile (f : FileSaid) (q : FileText) : Type 0 where
  pub name : q.name ≡ f.name
  pub id : q.id ≡ f.id
  pub sha1 : q.sha1 ≡ Some f.sha1
  pub concluded : q.concluded ≡ Some f.concluded
  pub copyright : q.copyright ≡ Some f.copyright

-- ---- a snippet (clause 9)

-- the lines of a snippet: its identifier alone
abbrev pub snippet_lines : List ℕ → List LineText
snippet_lines id = blank ∷ one_line tags.SnippetIdentifier id ∷ []

-- the snippet in JSON
abbrev pub snippet_object : List ℕ → Data
snippet_object id = object (member (codes "SPDXID") (string id) no_members)

-- the snippet that is read has the same identifier
abbrev pub IsSnippet : List ℕ → SnippetText → Type 0
IsSnippet id q = q.id ≡ id

-- ---- an extracted licence (clause 10)

-- an extracted licence
pub record LicenceSaid : Type 0 where
  pub id : List ℕ
  pub text : List ℕ

-- the lines of an extracted licence
abbrev pub licence_lines : LicenceSaid → List LineText
licence_lines l =
    blank ∷ one_line tags.LicenseIdentifier l.id ∷ in_text tags.ExtractedText l.text ∷ []

-- the licence in JSON
abbrev pub licence_object : LicenceSaid → Data
licence_object l = object
    (member (codes "extractedText") (string l.text)
    (member (codes "licenseId") (string l.id) no_members))

-- the licence that is read says the same
pub record IsLicence (l : LicenceSaid) (q : ExtractedText) : Type 0 where
  pub id : q.id ≡ l.id
  pub text : q.text ≡ Some l.text

-- ---- a relationship (clause 11)

-- a relationship: two elements and its type
pub record EdgeSaid : Type 0 where
  pub left : List ℕ
  pub kind : List ℕ
  pub right : List ℕ

-- the line of a relationship
abbrev pub edge_line : EdgeSaid → LineText
edge_line e = relationship_line e.left e.kind e.right

-- the relationship in JSON
abbrev pub relationship_object : EdgeSaid → Data
relationship_object e = object
    (member (codes "relatedSpdxElement") (string e.right)
    (member (codes "relationshipType") (string e.kind)
    (member (codes "spdxElementId") (string e.left) no_members)))

-- a relationship of these three words
abbrev pub said : List ℕ → List ℕ → List ℕ → EdgeSaid
said left kind right = record { left = left; kind = kind; right = right }

-- the relationship that is read says the same
pub record IsEdge (e : EdgeSaid) (q : EdgeText) : Type 0 where
  pub left : q.left ≡ e.left
  pub kind : q.kind ≡ e.kind
  pub right : q.right ≡ e.right

-- ---- the document (clause 6), with the elements that it describes

-- what the desk reads of a document
pub record DocumentSaid : Type 0 where
  pub version : List ℕ
  pub data_license : List ℕ
  pub id : List ℕ
  pub name : List ℕ
  pub namespace : List ℕ
  pub creators : List (List ℕ)
  pub created : List ℕ
  pub packages : List PackageSaid
  pub files : List FileSaid
  pub snippets : List (List ℕ)
  pub licences : List LicenceSaid
  pub edges : List EdgeSaid
  pub described : List (List ℕ)

-- that the document describes an element
abbrev pub describes : List ℕ → EdgeSaid
describes id = said (codes "SPDXRef-DOCUMENT") (codes "DESCRIBES") id

-- the document's own lines
abbrev pub head_lines : DocumentSaid → List LineText
head_lines d =
    one_line tags.Version d.version
    ∷ one_line tags.DataLicense d.data_license
    ∷ one_line tags.Identifier d.id
    ∷ one_line tags.DocumentName d.name
    ∷ one_line tags.DocumentNamespace d.namespace
    ∷ (map (one_line tags.Creator) d.creators ++ one_line tags.Created d.created ∷ [])

-- what the document describes, then the relationships that it lists
abbrev pub edge_lines : DocumentSaid → List LineText
edge_lines d = map (λ id. edge_line (describes id)) d.described ++ map edge_line d.edges

-- all lines: the head, the files, the snippets, the packages, the licences, the relationships
abbrev pub document_lines : DocumentSaid → List LineText
document_lines d =
    head_lines d
    ++ (flat_map file_lines d.files
    ++ (flat_map snippet_lines d.snippets
    ++ (flat_map package_lines d.packages
    ++ (flat_map licence_lines d.licences ++ edge_lines d))))

-- who made the document, and when (clauses 6.8 and 6.9)
abbrev pub creation_object : DocumentSaid → Data
creation_object d = object
    (member (codes "created") (string d.created)
    (member (codes "creators") (array_by string d.creators) no_members))

-- the whole document in JSON, its members by key
abbrev pub document_object : DocumentSaid → Data
document_object d = object
    (member (codes "SPDXID") (string d.id)
    (member (codes "creationInfo") (creation_object d)
    (member (codes "dataLicense") (string d.data_license)
    (member (codes "documentDescribes") (array_by string d.described)
    (member (codes "documentNamespace") (string d.namespace)
    (member (codes "files") (array_by file_object d.files)
    (member (codes "hasExtractedLicensingInfos") (array_by licence_object d.licences)
    (member (codes "name") (string d.name)
    (member (codes "packages") (array_by package_object d.packages)
    (member (codes "relationships") (array_by relationship_object d.edges)
    (member (codes "snippets") (array_by snippet_object d.snippets)
    (member (codes "spdxVersion") (string d.version) no_members))))))))))))

-- ---- normal form

-- the code, the identifier and those of the package's files are words without blanks
pub record IsNormalPackage (p : PackageSaid) : Type 0 where
  pub code : is_word p.code ≡ true
  pub id : is_word p.id ≡ true
  pub contained : All (λ id. is_word id ≡ true) p.contained

-- the digest is a word, and one of SHA1
pub record IsNormalFile (f : FileSaid) : Type 0 where
  pub digits : is_word f.sha1 ≡ true
  pub sha1 : is_sha1 (codes "SHA1: " ++ f.sha1) ≡ true

-- the three are words, and the relationship doesn't say what the document describes
pub record IsNormalEdge (e : EdgeSaid) : Type 0 where
  pub left : is_word e.left ≡ true
  pub kind : is_word e.kind ≡ true
  pub right : is_word e.right ≡ true
  pub other : is_describing (relationship_object e) ≡ false

-- what is written between blanks is a word, each digest is one of SHA1, and no relationship says
-- what the document describes
pub record IsNormal (d : DocumentSaid) : Type 0 where
  pub packages : All IsNormalPackage d.packages
  pub files : All IsNormalFile d.files
  pub edges : All IsNormalEdge d.edges
  pub described : All (λ id. is_word id ≡ true) d.described

-- ---- identifiers

-- the identifiers of all elements
abbrev pub element_ids : DocumentSaid → List (List ℕ)
element_ids d =
    map (λ (f : FileSaid). f.id) d.files
    ++ (d.snippets
    ++ (map (λ (p : PackageSaid). p.id) d.packages ++ map (λ (l : LicenceSaid). l.id) d.licences))

-- each differs from those before it
abbrev pub AreNew : List (List ℕ) → List (List ℕ) → Type 0
AreNew before [] = Unit {0}
AreNew before (id ∷ ids) = (is_among before id ≡ false) × AreNew (before ++ id ∷ []) ids

-- no two are the same
abbrev pub AreDistinct : List (List ℕ) → Type 0
AreDistinct ids = AreNew [] ids

-- ---- the same, read

-- that each package contains its files, what the document describes, and the relationships that it
-- lists
abbrev pub edges_said : DocumentSaid → List EdgeSaid
edges_said d =
    flat_map (λ (p : PackageSaid). map (said p.id (codes "CONTAINS")) p.contained) d.packages
    ++ (map describes d.described ++ d.edges)

-- the document that is read says the same, part by part, and has no other elements
pub record IsSaid (d : DocumentSaid) (x : DocumentText) : Type 0 where
  pub version : value_of tags.Version x.entries ≡ Some d.version
  pub data_license : value_of tags.DataLicense x.entries ≡ Some d.data_license
  pub id : value_of tags.Identifier x.entries ≡ Some d.id
  pub name : x.name ≡ d.name
  pub namespace : x.namespace ≡ d.namespace
  pub creators : values_of tags.Creator x.entries ≡ d.creators
  pub created : value_of tags.Created x.entries ≡ Some d.created
  pub packages : AreEach IsPackage d.packages x.packages
  pub files : AreEach IsFile d.files x.files
  pub in_files : values_of tags.FileLicense x.entries
      ≡ flat_map (λ (f : FileSaid). f.in_file) d.files
  pub snippets : AreEach IsSnippet d.snippets x.snippets
  pub licences : AreEach IsLicence d.licences x.extracted
  pub edges : AreEach IsEdge (edges_said d) x.edges
