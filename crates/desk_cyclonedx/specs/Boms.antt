-- The steps of a document (CycloneDX 1.4 to 1.6, JSON schema).
use Rattle.std.specs.Prelude.{ℕ, Bool, ◌||◌, List, [], ◌∷◌, ◌++◌, codes, Option, Some, None}
use Rattle.std.specs.Prelude.{nat_eq, option_and_then, if◌then◌else◌}
use Rattle.std.specs.Fmt.{decimal}
use Rattle.std.specs.List.{starts_with}
use Rattle.std.specs.Str.{bytes_eq}
use Rattle.desk_fields.specs.declared.tag.Tag.TheVariants as tags
use Rattle.desk_tagvalue.specs.Drafts.{LineText, one_line}
use Rattle.desk_base.specs.TextSets.{is_among}
use Rattle.serde_json.specs.Data.{Data}
use Rattle.serde_json.specs.Find.{get, as_number, as_str, as_u64}
use Rattle.desk_spdx_json.specs.declared.steps.Kind.TheVariants as kinds
use Rattle.desk_spdx_json.specs.declared.members.Form.TheVariants as forms
use Rattle.desk_spdx_json.specs.Documents.{document_id}
use Rattle.desk_spdx_json.specs.Elements.{merged}
use Rattle.desk_spdx_json.specs.Members.{MemberText, perhaps}
use Rattle.desk_spdx_json.specs.Parts.{object_steps, relationship_line}
use Rattle.desk_spdx_json.specs.Steps.{StepText, step, put, missing, bad_type, member_at}
use Rattle.desk_spdx_json.specs.Values.{if_array, text_fault, word_in}
use Rattle.desk_cyclonedx.specs.Components.{elements_of, excluded_ids, full_name, nested_fault}
use Rattle.desk_cyclonedx.specs.Licences.{name_fault}
use Rattle.desk_cyclonedx.specs.Names.{component_id}
use Rattle.desk_cyclonedx.specs.Placed.{all_placed, most_deep, root_of}

-- the value is a CycloneDX document
abbrev pub is_bom : Data → Bool
is_bom d = bytes_eq (word_in (codes "bomFormat") d) (codes "CycloneDX")

-- ---- the document's own fields

-- the members that are read, or whose items are left out; others are left out as other fields
abbrev pub bom_members : List MemberText
bom_members =
    perhaps (codes "externalReferences") (forms.LeftOut kinds.ExternalReference)
    ∷ perhaps (codes "annotations") (forms.LeftOut kinds.Annotation)
    ∷ perhaps (codes "services") (forms.LeftOut kinds.Field)
    ∷ perhaps (codes "vulnerabilities") (forms.LeftOut kinds.Field)
    ∷ perhaps (codes "bomFormat") forms.Elsewhere
    ∷ perhaps (codes "specVersion") forms.Elsewhere
    ∷ perhaps (codes "serialNumber") forms.Elsewhere
    ∷ perhaps (codes "version") forms.Elsewhere
    ∷ perhaps (codes "metadata") forms.Elsewhere
    ∷ perhaps (codes "components") forms.Elsewhere
    ∷ perhaps (codes "dependencies") forms.Elsewhere
    ∷ []

-- the members of `metadata`
abbrev pub metadata_members : List MemberText
metadata_members =
    perhaps (codes "timestamp") (forms.OneLine tags.Created)
    ∷ perhaps (codes "component") forms.Elsewhere
    ∷ []

-- a version that is read
abbrev pub is_version : List ℕ → Bool
is_version text = bytes_eq text (codes "1.4") || bytes_eq text (codes "1.5")
    || bytes_eq text (codes "1.6")

-- a serial number is a UUID as a URN (RFC 9562)
abbrev pub is_serial : List ℕ → Bool
is_serial text = starts_with nat_eq text (codes "urn:uuid:")

-- a text that must be there and pass a test
abbrev pub needed_fault : List ℕ → (List ℕ → Bool) → Option Data → List StepText
needed_fault at test None = step at missing ∷ []
needed_fault at test (Some d) = text_fault at test (as_str d)

-- the number of a version of a document; the first one if it isn't there
abbrev pub version_of : Option Data → Option ℕ
version_of None = Some 1
version_of (Some d) = option_and_then as_u64 (as_number d)

-- the number as it is written
abbrev pub version_text : Option ℕ → List ℕ
version_text None = []
version_text (Some n) = decimal n

-- it must be a number
abbrev pub version_fault : Option ℕ → List StepText
version_fault None = step (codes "/version") bad_type ∷ []
version_fault (Some n) = []

-- what is wrong with the document's own members
abbrev pub bom_faults : Data → List StepText
bom_faults d =
    needed_fault (codes "/specVersion") is_version (get (codes "specVersion") d)
    ++ (needed_fault (codes "/serialNumber") is_serial (get (codes "serialNumber") d)
    ++ version_fault (version_of (get (codes "version") d)))

-- the document is named after the component that it is about, or else by its serial number
abbrev pub name_by : Data → Option Data → List ℕ
name_by d None = word_in (codes "serialNumber") d
name_by d (Some root) = full_name root

-- its namespace is the serial number, with the number of the version after a slash
abbrev pub namespace_of : Data → List ℕ
namespace_of d = word_in (codes "serialNumber") d
    ++ (codes "/" ++ version_text (version_of (get (codes "version") d)))

-- a line of the document
abbrev pub line_at : List ℕ → LineText → StepText
line_at at line = step at (put line)

-- the document's own lines
abbrev pub bom_lines : Data → List StepText
bom_lines d =
    line_at [] (one_line tags.Version (codes "SPDX-2.3"))
    ∷ line_at [] (one_line tags.DataLicense (codes "CC0-1.0"))
    ∷ line_at [] (one_line tags.Identifier document_id)
    ∷ line_at (codes "/metadata/component/name")
    (one_line tags.DocumentName (name_by d (root_of d)))
    ∷ line_at (codes "/serialNumber") (one_line tags.DocumentNamespace (namespace_of d))
    ∷ line_at [] (one_line tags.Creator (codes "Tool: licence-desk-1"))
    ∷ []

-- those of `metadata`, if it is there
abbrev pub metadata_steps : Option Data → List StepText
metadata_steps None = []
metadata_steps (Some d) = object_steps (codes "/metadata") metadata_members d

-- ---- dependencies

-- the members of a dependency
abbrev pub dependency_members : List MemberText
dependency_members =
    perhaps (codes "ref") forms.Elsewhere
    ∷ perhaps (codes "dependsOn") forms.Elsewhere
    ∷ []

-- a component depends on another one; on one that is excluded only in development
abbrev pub dependency_line : List (List ℕ) → List ℕ → List ℕ → LineText
dependency_line excluded left right = if is_among excluded right
    then relationship_line right (codes "DEV_DEPENDENCY_OF") left
    else relationship_line left (codes "DEPENDS_ON") right

-- an item of `dependsOn`
abbrev pub target_by : List (List ℕ) → List ℕ → List ℕ → Option (List ℕ) → List StepText
target_by excluded left at None = step at bad_type ∷ []
target_by excluded left at (Some ref) =
    step at (put (dependency_line excluded left (component_id ref))) ∷ []

-- the same for its value
abbrev pub target_steps : List (List ℕ) → List ℕ → List ℕ → Data → List StepText
target_steps excluded left at d = target_by excluded left at (as_str d)

-- what is wrong with a dependency, and what is left out of it
abbrev pub dependency_head : List ℕ → Data → List StepText
dependency_head at d = object_steps at dependency_members d
    ++ name_fault (member_at at (codes "ref")) (get (codes "ref") d)

-- a dependency
abbrev pub dependency_steps : List (List ℕ) → List ℕ → Data → List StepText
dependency_steps excluded at d =
    dependency_head at d
    ++ if_array (target_steps excluded (component_id (word_in (codes "ref") d)))
    (member_at at (codes "dependsOn")) (get (codes "dependsOn") d)

-- ---- the whole

-- the document's own steps
abbrev pub head_steps : Data → List StepText
head_steps d =
    object_steps [] bom_members d
    ++ (bom_faults d
    ++ (bom_lines d
    ++ (metadata_steps (get (codes "metadata") d)
    ++ nested_fault most_deep (codes "/components") (get (codes "components") d))))

-- those of its components and its dependencies
abbrev pub parts_steps : Data → List StepText
parts_steps d =
    merged (elements_of (all_placed d))
    ++ if_array (dependency_steps (excluded_ids (all_placed d))) (codes "/dependencies")
    (get (codes "dependencies") d)

-- all steps of a document
abbrev pub bom_steps : Data → List StepText
bom_steps d = head_steps d ++ parts_steps d
