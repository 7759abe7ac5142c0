-- The steps of a component (CycloneDX 1.4 to 1.6, JSON schema, `component`): a package (SPDX 2.3,
-- clause 7), which its owner contains (clause 11).
use Rattle.std.specs.Prelude.{ℕ, Bool, ◌==◌, true, List, [], ◌∷◌, ◌++◌, length, codes, filter, map}
use Rattle.std.specs.Prelude.{Option, Some, None, is_some, option_and_then, if◌then◌else◌}
use Rattle.std.specs.List.{flat_map}
use Rattle.std.specs.Str.{bytes_eq}
use Rattle.desk_fields.specs.declared.tag.Tag.TheVariants as tags
use Rattle.desk_tagvalue.specs.Drafts.{blank, one_line}
use Rattle.serde_json.specs.Data.{Data, Items}
use Rattle.serde_json.specs.Find.{get, as_array, as_str}
use Rattle.desk_spdx_json.specs.declared.steps.Kind.TheVariants as kinds
use Rattle.desk_spdx_json.specs.declared.members.Form.TheVariants as forms
use Rattle.desk_spdx_json.specs.Documents.{document_id}
use Rattle.desk_spdx_json.specs.Elements.{ElementText}
use Rattle.desk_spdx_json.specs.Members.{MemberText, perhaps}
use Rattle.desk_spdx_json.specs.Parts.{object_steps, relationship_line}
use Rattle.desk_spdx_json.specs.Steps.{StepText, step, put, bad_type, bad_value, member_at}
use Rattle.desk_spdx_json.specs.Values.{items_steps, text_fault, word_in}
use Rattle.desk_cyclonedx.specs.Licences.{item_elements, list_steps, name_fault}
use Rattle.desk_cyclonedx.specs.Placed.{PlacedText}

-- ---- its own fields

-- the name after its group, if it has one
abbrev pub full_name : Data → List ℕ
full_name d = if length (word_in (codes "group") d) == 0 then word_in (codes "name") d
    else word_in (codes "group") d ++ (codes "/" ++ word_in (codes "name") d)

-- a member that must be a text, if it is there
abbrev pub text_if : List ℕ → Option Data → List StepText
text_if at None = []
text_if at (Some d) = text_fault at (λ text. true) (as_str d)

-- the same for the member with a key
abbrev pub text_in : List ℕ → Data → List ℕ → List StepText
text_in at d key = text_if (member_at at key) (get key d)

-- what is wrong with the texts of which the name and the identifier are made, and with the scope
abbrev pub text_faults : List ℕ → Data → List StepText
text_faults at d =
    name_fault (member_at at (codes "name")) (get (codes "name") d)
    ++ (text_in at d (codes "group")
    ++ (text_in at d (codes "bom-ref") ++ text_in at d (codes "scope")))

-- the name, the identifier, and that nothing is said of where it comes from or of its files
abbrev pub head_steps : PlacedText → List StepText
head_steps p =
    step [] (put blank)
    ∷ step (member_at p.at (codes "name")) (put (one_line tags.PackageName (full_name p.value)))
    ∷ step p.at (put (one_line tags.Identifier p.id))
    ∷ step p.at (put (one_line tags.DownloadLocation (codes "NOASSERTION")))
    ∷ step p.at (put (one_line tags.FilesAnalyzed (codes "false")))
    ∷ []

-- the members that have a field, or are left out; all others are left out as other fields
abbrev pub component_members : List MemberText
component_members =
    perhaps (codes "version") (forms.OneLine tags.PackageVersion)
    ∷ perhaps (codes "copyright") (forms.Copyright tags.PackageCopyright)
    ∷ perhaps (codes "purl") (forms.LeftOut kinds.ExternalReference)
    ∷ perhaps (codes "externalReferences") (forms.LeftOut kinds.ExternalReference)
    ∷ perhaps (codes "name") forms.Elsewhere
    ∷ perhaps (codes "group") forms.Elsewhere
    ∷ perhaps (codes "bom-ref") forms.Elsewhere
    ∷ perhaps (codes "scope") forms.Elsewhere
    ∷ perhaps (codes "licenses") forms.Elsewhere
    ∷ perhaps (codes "components") forms.Elsewhere
    ∷ []

-- ---- its licences

-- a list of licences
abbrev pub listed_licences : List ℕ → Option Items → List StepText
listed_licences at None = step at bad_type ∷ []
listed_licences at (Some ds) = list_steps at ds

-- the same, if there is such a member
abbrev pub licence_steps : List ℕ → Option Data → List StepText
licence_steps at None = []
licence_steps at (Some d) = listed_licences at (as_array d)

-- ---- what is in it, and what it is in

-- others in it must be a list, and not be too deep
abbrev pub nested_fault : ℕ → List ℕ → Option Data → List StepText
nested_fault depth at None = []
nested_fault depth at (Some d) = if is_some (as_array d)
    then (if depth == 0 then step at bad_value ∷ [] else []) else step at bad_type ∷ []

-- it isn't part of what is delivered
abbrev pub is_excluded : Data → Bool
is_excluded d = bytes_eq (word_in (codes "scope") d) (codes "excluded")

-- the document describes it, or another component contains it
abbrev pub tie_kind : List ℕ → List ℕ
tie_kind owner = if bytes_eq owner document_id then codes "DESCRIBES" else codes "CONTAINS"

-- that its owner has it, unless it is excluded
abbrev pub tie_steps : PlacedText → List StepText
tie_steps p = if is_excluded p.value then []
    else step p.at (put (relationship_line p.owner (tie_kind p.owner) p.id)) ∷ []

-- ---- the whole

-- the other members, those in it, and what it is in
abbrev pub rest_steps : PlacedText → List StepText
rest_steps p =
    object_steps p.at component_members p.value
    ++ (nested_fault p.depth (member_at p.at (codes "components"))
    (get (codes "components") p.value)
    ++ tie_steps p)

-- all steps of a component
abbrev pub component_steps : PlacedText → List StepText
component_steps p =
    text_faults p.at p.value
    ++ (head_steps p
    ++ (licence_steps (member_at p.at (codes "licenses")) (get (codes "licenses") p.value)
    ++ rest_steps p))

-- a component as an element
abbrev pub component_element : PlacedText → ElementText
component_element p = record { at = p.at; id = p.id; steps = component_steps p }

-- the licences with texts of a component
abbrev pub licence_elements : List ℕ → Option Items → List ElementText
licence_elements at None = []
licence_elements at (Some ds) = items_steps item_elements at 0 ds

-- a component, and its licences with texts
abbrev pub placed_elements : PlacedText → List ElementText
placed_elements p = component_element p
    ∷ licence_elements (member_at p.at (codes "licenses"))
    (option_and_then as_array (get (codes "licenses") p.value))

-- those of all components
abbrev pub elements_of : List PlacedText → List ElementText
elements_of ps = flat_map placed_elements ps

-- the identifiers of the components that are excluded
abbrev pub excluded_ids : List PlacedText → List (List ℕ)
excluded_ids ps = map (λ (p : PlacedText). p.id) (filter (λ (p : PlacedText). is_excluded p.value) ps)
