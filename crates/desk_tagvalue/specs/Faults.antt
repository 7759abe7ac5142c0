-- Which field of a document fails, and how, given the fields before it, the newest first.
use Rattle.std.specs.Prelude.{ℕ, ◌&&◌, ◌||◌, not, Bool, true, false, List, [], ◌∷◌, Option, Some}
use Rattle.std.specs.Prelude.{None, is_some, if◌then◌else◌, codes, count_by, nat_le}
use Rattle.std.specs.List.{list_any}
use Rattle.std.specs.Str.{bytes_eq}
use Rattle.desk_base.specs.Limits.{document_elements}
use Rattle.desk_fields.specs.declared.tag.Tag.{Tag}
use Rattle.desk_fields.specs.declared.tag.Tag.TheVariants as tags
use Rattle.desk_fields.specs.declared.fault.DocFault.{DocFault}
use Rattle.desk_fields.specs.declared.fault.DocFault.TheVariants as faults
use Rattle.desk_fields.specs.Tags.{same_tag}
use Rattle.desk_tagvalue.specs.declared.sections.SectionKind.{SectionKind}
use Rattle.desk_tagvalue.specs.declared.sections.SectionKind.TheVariants as kinds
use Rattle.desk_tagvalue.specs.declared.sections.IdForm.{IdForm}
use Rattle.desk_tagvalue.specs.declared.sections.IdForm.TheVariants as forms
use Rattle.desk_tagvalue.specs.Entries.{EntryText}
use Rattle.desk_tagvalue.specs.Sections.{section_begun, is_placed, once_in_document, once_in_section, id_form}
use Rattle.desk_tagvalue.specs.Ids.{is_element_id, is_licence_id, is_document_id}
use Rattle.desk_tagvalue.specs.Relationships.{is_relationship}

-- whether the field begins a section
abbrev pub begins : EntryText → Bool
begins e = is_some (section_begun e.tag)

-- the field has this tag
abbrev pub has_tag : Tag → EntryText → Bool
has_tag tag e = same_tag e.tag tag

-- the kind of section after a field: the one that it begins, or else the one before
abbrev pub kind_after : Option SectionKind → SectionKind → SectionKind
kind_after None before = before
kind_after (Some kind) before = kind

-- the kind of the section that is open
abbrev pub kind_of : List EntryText → SectionKind
kind_of [] = kinds.Document
kind_of (e ∷ es) = kind_after (section_begun e.tag) (kind_of es)

-- the fields of the section that is open, from the newest down to its start
abbrev pub section : List EntryText → List EntryText
section [] = []
section (e ∷ es) = if begins e then e ∷ [] else e ∷ section es

-- the field begins an element, and there are already as many as a document may have
abbrev pub is_too_many : List EntryText → EntryText → Bool
is_too_many before e = begins e && nat_le document_elements (count_by begins before)

-- the field may occur only once, and is there already
abbrev pub is_again : List EntryText → EntryText → Bool
is_again before e =
    if once_in_document e.tag then list_any (has_tag e.tag) before
    else once_in_section e.tag && is_placed (kind_of before) e.tag
    && list_any (has_tag e.tag) (section before)

-- an identifier of another form
abbrev pub is_misspelt : Option IdForm → List ℕ → Bool
is_misspelt None value = false
is_misspelt (Some forms.Document) value = not (is_document_id value)
is_misspelt (Some forms.Element) value = not (is_element_id value)
is_misspelt (Some forms.Licence) value = not (is_licence_id value)

-- what a field names, after those before it
abbrev pub names : List EntryText → EntryText → Option IdForm
names before e = id_form (kind_of before) e.tag

-- the identifiers of the document, of packages, files and snippets are of one space of names
abbrev pub names_element : Option IdForm → Bool
names_element (Some forms.Document) = true
names_element (Some forms.Element) = true
names_element _ = false

-- the identifiers of extracted licences are of a space of their own
abbrev pub names_licence : Option IdForm → Bool
names_licence (Some forms.Licence) = true
names_licence _ = false

-- whether an element, or an extracted licence, has the identifier
abbrev pub has_element : List ℕ → List EntryText → Bool
has_element id [] = false
has_element id (e ∷ es) = names_element (names es e) && bytes_eq e.value id || has_element id es

-- the same for an extracted licence
abbrev pub has_licence : List ℕ → List EntryText → Bool
has_licence id [] = false
has_licence id (e ∷ es) = names_licence (names es e) && bytes_eq e.value id || has_licence id es

-- an identifier occurs among those of its own space that were named before
abbrev pub is_taken : Option IdForm → List ℕ → List EntryText → Bool
is_taken None id before = false
is_taken (Some forms.Document) id before = has_element id before
is_taken (Some forms.Element) id before = has_element id before
is_taken (Some forms.Licence) id before = has_licence id before

-- the versions that are read (clause 6.1)
abbrev pub is_version : List ℕ → Bool
is_version value = bytes_eq value (codes "SPDX-2.1") || bytes_eq value (codes "SPDX-2.2")
    || bytes_eq value (codes "SPDX-2.3")

-- faults of a field because of what precedes it, in their order
abbrev pub place_fault : List EntryText → EntryText → Option DocFault
place_fault before e =
    if is_too_many before e then Some (faults.TooManyElements e.line)
    else (if is_again before e then Some (faults.Repeated e.line e.tag)
    else (if is_misspelt (names before e) e.value then Some (faults.BadId e.line)
    else None))

-- an identifier that was used before
abbrev pub double_fault : List EntryText → EntryText → Option DocFault
double_fault before e = if is_taken (names before e) e.value before
    then Some (faults.DuplicateId e.line) else None

-- faults of a field because of its value alone
abbrev pub value_fault : EntryText → Option DocFault
value_fault e =
    if same_tag e.tag tags.Version && not (is_version e.value) then Some (faults.BadVersion e.line)
    else (if same_tag e.tag tags.Relationship && not (is_relationship e.value)
    then Some (faults.BadRelationship e.line)
    else None)

-- the first fault if there is one, or else the later one
abbrev pub first_of : Option DocFault → Option DocFault → Option DocFault
first_of None later = later
first_of (Some fault) later = Some fault

-- how a field fails after those before it, the first in the stated order
abbrev pub field_fault : List EntryText → EntryText → Option DocFault
field_fault before e = first_of (place_fault before e)
    (first_of (double_fault before e) (value_fault e))

-- the fault of the first field that fails, after those before it
abbrev pub first_fault : List EntryText → List EntryText → Option DocFault
first_fault before [] = None
first_fault before (e ∷ es) = first_of (field_fault before e) (first_fault (e ∷ before) es)
