-- The steps of a document's parts: its files, snippets, packages, extracted licences and
-- relationships.
use Rattle.std.specs.Prelude.{ℕ, Bool, List, [], ◌∷◌, ◌++◌, Option, Some, None, codes, if◌then◌else◌}
use Rattle.std.specs.List.{flat_map, list_any}
use Rattle.std.specs.Str.{bytes_eq}
use Rattle.desk_fields.specs.declared.tag.Tag.TheVariants as tags
use Rattle.desk_tagvalue.specs.Drafts.{LineText, blank, one_line}
use Rattle.serde_json.specs.Data.{Data, Items, Members, no_members, member}
use Rattle.serde_json.specs.Find.{get, as_array, as_str, as_object}
use Rattle.desk_spdx_json.specs.declared.steps.Kind.TheVariants as kinds
use Rattle.desk_spdx_json.specs.declared.parts.Part.{Part}
use Rattle.desk_spdx_json.specs.declared.parts.Part.TheVariants as parts
use Rattle.desk_spdx_json.specs.Words.{is_word}
use Rattle.desk_spdx_json.specs.Steps.{StepText, step, put, left_out, missing, bad_type, bad_value, member_at}
use Rattle.desk_spdx_json.specs.Members.{MemberText, package_members, file_members, snippet_members}
use Rattle.desk_spdx_json.specs.Members.{extracted_members, relationship_members}
use Rattle.desk_spdx_json.specs.Values.{value_steps, if_array, items_steps, word_fault, word_in}
use Rattle.desk_spdx_json.specs.Elements.{ElementText}

-- ---- an object, member by member

-- a member that isn't there: a fault if it must be, or else nothing
abbrev pub missing_steps : List ℕ → Bool → List StepText
missing_steps at is_needed = if is_needed then step at missing ∷ [] else []

-- the steps of a member, whether it is there or not
abbrev pub found_steps : List ℕ → MemberText → Option Data → List StepText
found_steps at m None = missing_steps at m.is_needed
found_steps at m (Some d) = value_steps at m.form d

-- the steps of one member of an object, at the member's own place
abbrev pub member_steps : List ℕ → Data → MemberText → List StepText
member_steps at d m = found_steps (member_at at m.key) m (get m.key d)

-- members that aren't in the list are left out
abbrev pub is_known : List MemberText → List ℕ → Bool
is_known ms key = list_any (λ (m : MemberText). bytes_eq key m.key) ms

-- a member that isn't in the list is left out; its place isn't kept
abbrev pub unknown_step : List MemberText → List ℕ → List StepText
unknown_step ms key = if is_known ms key then [] else step [] (left_out kinds.Field) ∷ []

-- those of all members
abbrev pub unknown_steps : List MemberText → Members → List StepText
unknown_steps ms no_members = []
unknown_steps ms (member key d more) = unknown_step ms key ++ unknown_steps ms more

-- the listed members in the order of the list, then all that is left out
abbrev pub of_members : List ℕ → List MemberText → Data → Option Members → List StepText
of_members at ms d None = step at bad_type ∷ []
of_members at ms d (Some members) = flat_map (member_steps at d) ms ++ unknown_steps ms members

-- the steps of an object; a value of another kind is a fault
abbrev pub object_steps : List ℕ → List MemberText → Data → List StepText
object_steps at ms d = of_members at ms d (as_object d)

-- ---- relationships (clause 11.1)

-- the line of a relationship, its three words with one blank between them
abbrev pub relationship_line : List ℕ → List ℕ → List ℕ → LineText
relationship_line left kind right = one_line tags.Relationship
    (left ++ (codes " " ++ (kind ++ (codes " " ++ right))))

-- the three words of a relationship object; a missing one is empty
abbrev pub words_of : Data → LineText
words_of d =
    relationship_line (word_in (codes "spdxElementId") d) (word_in (codes "relationshipType") d)
    (word_in (codes "relatedSpdxElement") d)

-- a relationship is written only if each of its three members is a word
abbrev pub relationship_steps : List ℕ → Data → List StepText
relationship_steps at d =
    object_steps at relationship_members d
    ++ (word_fault at (codes "spdxElementId") d
    ++ (word_fault at (codes "relationshipType") d
    ++ (word_fault at (codes "relatedSpdxElement") d
    ++ step at (put (words_of d)) ∷ [])))

-- a relationship from an element to the one that a value names
abbrev pub tie_step : List ℕ → List ℕ → List ℕ → Option (List ℕ) → StepText
tie_step at left kind None = step at bad_type
tie_step at left kind (Some right) = if is_word right
    then step at (put (relationship_line left kind right)) else step at bad_value

-- the relationship by which a package CONTAINS a file that it lists
abbrev pub contained_steps : List ℕ → List ℕ → Data → List StepText
contained_steps owner at d = tie_step at owner (codes "CONTAINS") (as_str d) ∷ []

-- ---- parts

-- all but relationships come after a blank line; a package by the steps of each file that it lists
abbrev pub package_by : (List ℕ → List ℕ → Data → List StepText) → List ℕ → Data → List StepText
package_by contained at d =
    step [] (put blank)
    ∷ (object_steps at package_members d
    ++ if_array (contained (word_in (codes "SPDXID") d)) (member_at at (codes "hasFiles"))
    (get (codes "hasFiles") d))

-- a blank line, a package and its files
abbrev pub package_steps : List ℕ → Data → List StepText
package_steps at d = package_by contained_steps at d

-- a blank line and a file
abbrev pub file_steps : List ℕ → Data → List StepText
file_steps at d = step [] (put blank) ∷ object_steps at file_members d

-- a blank line and a snippet
abbrev pub snippet_steps : List ℕ → Data → List StepText
snippet_steps at d = step [] (put blank) ∷ object_steps at snippet_members d

-- a blank line and an extracted licence
abbrev pub extracted_steps : List ℕ → Data → List StepText
extracted_steps at d = step [] (put blank) ∷ object_steps at extracted_members d

-- the steps of a part, by what it is
abbrev pub part_steps : Part → List ℕ → Data → List StepText
part_steps parts.Package = package_steps
part_steps parts.File = file_steps
part_steps parts.Snippet = snippet_steps
part_steps parts.Extracted = extracted_steps

-- the member that has the identifier of a part
abbrev pub id_key : Part → List ℕ
id_key parts.Extracted = codes "licenseId"
id_key _ = codes "SPDXID"

-- the member of the document that lists such parts
abbrev pub list_key : Part → List ℕ
list_key parts.File = codes "files"
list_key parts.Snippet = codes "snippets"
list_key parts.Package = codes "packages"
list_key parts.Extracted = codes "hasExtractedLicensingInfos"

-- a part as an element, by the steps of parts
abbrev pub element_by : (Part → List ℕ → Data → List StepText) → Part → List ℕ → Data → ElementText
element_by steps part at d = record {
  at = at;
  id = word_in (id_key part) d;
  steps = steps part at d;
}

-- a part as an element
abbrev pub part_element : Part → List ℕ → Data → ElementText
part_element part at d = element_by part_steps part at d

-- a list that is none, as an element without an identifier
abbrev pub no_list : List ℕ → ElementText
no_list at = record { at = at; id = []; steps = step at bad_type ∷ [] }

-- the elements of a list, by what an item is as an element
abbrev pub list_elements : (List ℕ → Data → ElementText) → List ℕ → Option Items
    → List ElementText
list_elements element at None = no_list at ∷ []
list_elements element at (Some ds) = items_steps (λ place d. element place d ∷ []) at 0 ds

-- the same, if there is such a list
abbrev pub found_elements : (List ℕ → Data → ElementText) → List ℕ → Option Data
    → List ElementText
found_elements element at None = []
found_elements element at (Some d) = list_elements element at (as_array d)
