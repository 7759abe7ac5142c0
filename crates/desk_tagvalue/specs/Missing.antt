-- Fields that a document, and each package and file, must have (SPDX 2.3, clauses 6.1, 6.3 to 6.5,
-- 7.2 and 8.2).
use Rattle.std.specs.Prelude.{Bool, ◌&&◌, ◌||◌, List, [], ◌∷◌, Option, Some, None, is_none, if◌then◌else◌}
use Rattle.desk_fields.specs.declared.tag.Tag.{Tag}
use Rattle.desk_fields.specs.declared.tag.Tag.TheVariants as tags
use Rattle.desk_fields.specs.declared.fault.DocFault.{DocFault}
use Rattle.desk_fields.specs.declared.fault.DocFault.TheVariants as faults
use Rattle.desk_fields.specs.Tags.{same_tag}
use Rattle.desk_tagvalue.specs.Entries.{EntryText, value_of}
use Rattle.desk_tagvalue.specs.Faults.{first_of}
use Rattle.desk_tagvalue.specs.Parts.{head_of}

-- no field has this tag; an empty value is a value
abbrev pub is_absent : Tag → List EntryText → Bool
is_absent tag es = is_none (value_of tag es)

-- of the document, in this order
abbrev pub missing_of_document : List EntryText → Option DocFault
missing_of_document es =
    if is_absent tags.Version es then Some (faults.Missing 1 tags.Version)
    else (if is_absent tags.Identifier (head_of es) then Some (faults.Missing 1 tags.Identifier)
    else (if is_absent tags.DocumentName es then Some (faults.Missing 1 tags.DocumentName)
    else (if is_absent tags.DocumentNamespace es then Some (faults.Missing 1 tags.DocumentNamespace)
    else None)))

-- a package or a file, and its section has no identifier
abbrev pub is_unnamed : EntryText → List EntryText → Bool
is_unnamed e es = (same_tag e.tag tags.PackageName || same_tag e.tag tags.FileName)
    && is_absent tags.Identifier (head_of es)

-- of the first package or file without an identifier
abbrev pub missing_of_elements : List EntryText → Option DocFault
missing_of_elements [] = None
missing_of_elements (e ∷ es) = if is_unnamed e es then Some (faults.Missing e.line tags.Identifier)
    else missing_of_elements es

-- what is missing, the document's fields before those of its elements
abbrev pub missing_of : List EntryText → Option DocFault
missing_of es = first_of (missing_of_document es) (missing_of_elements es)
