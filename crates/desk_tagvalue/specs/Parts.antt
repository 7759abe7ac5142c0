-- The parts of a document: sections as cuts of the fields at the tags that begin one, and what each
-- section says.
use Rattle.std.specs.Prelude.{ℕ, Bool, ◌&&◌, ◌||◌, ◌==◌, not, nat_eq, nat_le, List, [], ◌∷◌, Option}
use Rattle.std.specs.Prelude.{Some, None, unwrap_or, if◌then◌else◌, codes, drop, length, map}
use Rattle.std.specs.Prelude.{filter}
use Rattle.std.specs.List.{take_while, starts_with, list_all}
use Rattle.desk_fields.specs.declared.tag.Tag.{Tag}
use Rattle.desk_fields.specs.declared.tag.Tag.TheVariants as tags
use Rattle.desk_fields.specs.Tags.{same_tag}
use Rattle.desk_tagvalue.specs.Entries.{EntryText, value_of}
use Rattle.desk_tagvalue.specs.Faults.{begins}
use Rattle.desk_tagvalue.specs.Relationships.{left_word, kind_word, right_word}

-- a field that begins no section
abbrev pub is_inside : EntryText → Bool
is_inside e = not (begins e)

-- the fields up to the next that begins a section
abbrev pub head_of : List EntryText → List EntryText
head_of es = take_while is_inside es

-- the field that begins a section, and the fields of the section
pub record Section : Type 0 where
  pub start : EntryText
  pub fields : List EntryText

-- the section that a field begins, with the fields up to the next section
abbrev pub section_at : EntryText → List EntryText → Section
section_at e es = record { start = e; fields = head_of es }

-- all sections after the document's own
abbrev pub sections_of : List EntryText → List Section
sections_of [] = []
sections_of (e ∷ es) = if begins e then section_at e es ∷ sections_of es else sections_of es

-- the section begins with this tag
abbrev pub begins_with : Tag → Section → Bool
begins_with tag s = same_tag s.start.tag tag

-- what the sections that begin with a tag say
abbrev pub parts_of : {T : Type 0} → Tag → (Section → T) → List EntryText → List T
parts_of tag says es = map says (filter (begins_with tag) (sections_of es))

-- the value of a field, or the empty text if it isn't there
abbrev pub text_of : Tag → List EntryText → List ℕ
text_of tag es = unwrap_or (value_of tag es) []

-- a package (clause 7)
pub record PackageText : Type 0 where
  pub line : ℕ
  pub name : List ℕ
  pub id : List ℕ
  pub version : Option (List ℕ)
  pub download_location : Option (List ℕ)
  pub files_analyzed : Option (List ℕ)
  pub verification_code : Option (List ℕ)
  pub concluded : Option (List ℕ)
  pub declared : Option (List ℕ)
  pub copyright : Option (List ℕ)

-- what a package's section says
abbrev pub package_of : Section → PackageText
package_of s = record {
  line = s.start.line;
  name = s.start.value;
  id = text_of tags.Identifier s.fields;
  version = value_of tags.PackageVersion s.fields;
  download_location = value_of tags.DownloadLocation s.fields;
  files_analyzed = value_of tags.FilesAnalyzed s.fields;
  verification_code = value_of tags.VerificationCode s.fields;
  concluded = value_of tags.PackageConcluded s.fields;
  declared = value_of tags.PackageDeclared s.fields;
  copyright = value_of tags.PackageCopyright s.fields;
}

-- a hexadecimal digit in either case
abbrev pub is_hex : ℕ → Bool
is_hex b = nat_le 48 b && nat_le b 57 || nat_le 65 b && nat_le b 70 || nat_le 97 b && nat_le b 102

-- `SHA1: ` and 40 hexadecimal digits (clause 8.4)
abbrev pub is_sha1 : List ℕ → Bool
is_sha1 value = starts_with nat_eq value (codes "SHA1: ") && length value == 46
    && list_all is_hex (drop 6 value)

-- its digits
abbrev pub sha1_digits : List ℕ → Option (List ℕ)
sha1_digits value = if is_sha1 value then Some (drop 6 value) else None

-- the digits of the first checksum of that form
abbrev pub sha1_of : List EntryText → Option (List ℕ)
sha1_of [] = None
sha1_of (e ∷ es) = if same_tag e.tag tags.FileChecksum && is_sha1 e.value then Some (drop 6 e.value)
    else sha1_of es

-- a file (clause 8)
pub record FileText : Type 0 where
  pub line : ℕ
  pub name : List ℕ
  pub id : List ℕ
  pub sha1 : Option (List ℕ)
  pub concluded : Option (List ℕ)
  pub copyright : Option (List ℕ)

-- what a file's section says
abbrev pub file_of : Section → FileText
file_of s = record {
  line = s.start.line;
  name = s.start.value;
  id = text_of tags.Identifier s.fields;
  sha1 = sha1_of s.fields;
  concluded = value_of tags.FileConcluded s.fields;
  copyright = value_of tags.FileCopyright s.fields;
}

-- a snippet (clause 9)
pub record SnippetText : Type 0 where
  pub line : ℕ
  pub id : List ℕ

-- what a snippet's section says
abbrev pub snippet_of : Section → SnippetText
snippet_of s = record { line = s.start.line; id = s.start.value }

-- an extracted licence (clause 10)
pub record ExtractedText : Type 0 where
  pub line : ℕ
  pub id : List ℕ
  pub text : Option (List ℕ)

-- what the section of an extracted licence says
abbrev pub extracted_of : Section → ExtractedText
extracted_of s = record {
  line = s.start.line;
  id = s.start.value;
  text = value_of tags.ExtractedText s.fields;
}

-- a relationship (clause 11), in whichever section it is
pub record EdgeText : Type 0 where
  pub line : ℕ
  pub left : List ℕ
  pub kind : List ℕ
  pub right : List ℕ

-- the three words of a relationship, with its line
abbrev pub edge_of : EntryText → EdgeText
edge_of e = record {
  line = e.line;
  left = left_word e.value;
  kind = kind_word e.value;
  right = right_word e.value;
}

-- a field that is a relationship
abbrev pub is_edge : EntryText → Bool
is_edge e = same_tag e.tag tags.Relationship

-- the relationships of all sections, in the order of the text
abbrev pub edges_of : List EntryText → List EdgeText
edges_of es = map edge_of (filter is_edge es)

-- a document: its fields, its name and namespace (clauses 6.4 and 6.5), and its parts in the order
-- of the text
pub record DocumentText : Type 0 where
  pub entries : List EntryText
  pub name : List ℕ
  pub namespace : List ℕ
  pub packages : List PackageText
  pub files : List FileText
  pub snippets : List SnippetText
  pub extracted : List ExtractedText
  pub edges : List EdgeText

-- the document that the fields say, if they have no fault
abbrev pub document_of : List EntryText → DocumentText
document_of es = record {
  entries = es;
  name = text_of tags.DocumentName es;
  namespace = text_of tags.DocumentNamespace es;
  packages = parts_of tags.PackageName package_of es;
  files = parts_of tags.FileName file_of es;
  snippets = parts_of tags.SnippetIdentifier snippet_of es;
  extracted = parts_of tags.LicenseIdentifier extracted_of es;
  edges = edges_of es;
}
