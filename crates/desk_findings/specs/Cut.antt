-- A document as its parts (SPDX 2.3, clauses 6 to 10): its own fields, then each section, and what
-- other definitions say about them.
use Rattle.std.specs.Prelude.{ℕ, ◌+◌, Bool, List, [], ◌∷◌, ◌++◌, map, filter, if◌then◌else◌}
use Rattle.desk_fields.specs.declared.tag.Tag.TheVariants as tags
use Rattle.desk_tagvalue.specs.declared.sections.SectionKind.{SectionKind}
use Rattle.desk_tagvalue.specs.declared.sections.SectionKind.TheVariants as kinds
use Rattle.desk_tagvalue.specs.Entries.{EntryText}
use Rattle.desk_tagvalue.specs.Faults.{kind_after}
use Rattle.desk_tagvalue.specs.Parts.{Section, head_of, sections_of, begins_with}
use Rattle.desk_tagvalue.specs.Sections.{section_begun, is_package, is_file}
use Rattle.desk_bom.specs.declared.arrows.Arrow.{Arrow}
use Rattle.desk_bom.specs.Contents.{onto_package}
use Rattle.desk_findings.specs.Fields.{FieldAt, fields_in}

-- the document's own fields, or those of one section with the field that begins it
pub record Part : Type 0 where
  pub kind : SectionKind
  pub fields : List EntryText

-- the fields of a part
abbrev pub fields : Part → List EntryText
fields p = p.fields

-- the document's own, up to the first tag that begins a section
abbrev pub own_part : List EntryText → Part
own_part es = record { kind = kinds.Document; fields = head_of es }

-- a section's, of the kind that its tag begins
abbrev pub part_of : Section → Part
part_of s = record {
  kind = kind_after (section_begun s.start.tag) kinds.Document;
  fields = s.start ∷ s.fields;
}

-- the document's own part, then each section, in the order of the text
abbrev pub parts : List EntryText → List Part
parts es = own_part es ∷ map part_of (sections_of es)

-- the last of some parts
abbrev pub last_of : Part → List Part → Part
last_of p [] = p
last_of p (q ∷ qs) = last_of q qs

-- the part that the next field would belong to
abbrev pub last_part : List EntryText → Part
last_part es = last_of (own_part es) (map part_of (sections_of es))

-- the part is a package
abbrev pub is_package_part : Part → Bool
is_package_part p = is_package p.kind

-- the part is a file
abbrev pub is_file_part : Part → Bool
is_file_part p = is_file p.kind

-- the parts that are read as packages, and as files
abbrev pub packages_of : List EntryText → List Part
packages_of es = map part_of (filter (begins_with tags.PackageName) (sections_of es))

-- the parts that begin with FileName
abbrev pub files_of : List EntryText → List Part
files_of es = map part_of (filter (begins_with tags.FileName) (sections_of es))

-- each file in the last package before it, after this many packages and files
abbrev pub owned : ℕ → ℕ → List Part → List Arrow
owned packages files [] = []
owned packages files (p ∷ ps) =
    if is_package_part p then owned (packages + 1) files ps
    else (if is_file_part p then onto_package packages files (owned packages (files + 1) ps)
    else owned packages files ps)

-- how many packages have begun with a part, if this many had begun before
abbrev pub begun : ℕ → Part → ℕ
begun packages p = if is_package_part p then packages + 1 else packages

-- each field in its part, after this many packages have begun
abbrev pub field_at : SectionKind → ℕ → EntryText → FieldAt
field_at kind packages e = record { section = kind; packages = packages; entry = e }

-- the same for part after part
abbrev pub listed : ℕ → List Part → List FieldAt
listed packages [] = []
listed packages (p ∷ ps) = map (field_at p.kind (begun packages p)) p.fields
    ++ listed (begun packages p) ps

-- the fields as findings see them
abbrev pub findings_fields : List EntryText → List FieldAt
findings_fields es = fields_in kinds.Document 0 es
