-- The steps of a document: its own fields, the files, the snippets, the packages, the extracted
-- licences, the relationships. Elements of one identifier that say the same are written once. Files
-- come before packages, so only relationships say to which package a file belongs; a snippet begins
-- a section of its own (clause 9.1), so snippets come where no field of a file or package follows
-- them.
use Rattle.std.specs.Prelude.{ℕ, Bool, ◌&&◌, List, [], ◌∷◌, ◌++◌, Option, Some, None}
use Rattle.std.specs.Prelude.{option_and_then, is_some, false, codes, if◌then◌else◌}
use Rattle.std.specs.Str.{bytes_eq}
use Rattle.desk_base.specs.TextSets.{is_among}
pub use Rattle.desk_spdx_files.specs.Files.{document_id}
use Rattle.serde_json.specs.Data.{Data, Items, no_items, item}
use Rattle.serde_json.specs.Find.{get, as_str, as_array}
use Rattle.desk_spdx_json.specs.declared.parts.Part.{Part}
use Rattle.desk_spdx_json.specs.declared.parts.Part.TheVariants as parts
use Rattle.desk_spdx_json.specs.Steps.{StepText, member_at}
use Rattle.desk_spdx_json.specs.Members.{document_members, creation_members}
use Rattle.desk_spdx_json.specs.Values.{if_array, word_in}
use Rattle.desk_spdx_json.specs.Elements.{ElementText, merged}
use Rattle.desk_spdx_json.specs.Parts.{element_by, found_elements, list_key, object_steps}
use Rattle.desk_spdx_json.specs.Parts.{part_steps, relationship_steps, tie_step}

-- the steps of `creationInfo`, if it is there
abbrev pub creation_steps : List ℕ → Option Data → List StepText
creation_steps at None = []
creation_steps at (Some d) = object_steps at creation_members d

-- the parts of one kind in the document, by the steps of parts
abbrev pub all_parts : (Part → List ℕ → Data → List StepText) → Part → List ℕ → Data
    → List ElementText
all_parts steps part at d = found_elements (element_by steps part) (member_at at (list_key part))
    (get (list_key part) d)

-- all elements of the document, by the same
abbrev pub elements_by : (Part → List ℕ → Data → List StepText) → List ℕ → Data → List ElementText
elements_by steps at d =
    all_parts steps parts.File at d
    ++ (all_parts steps parts.Snippet at d
    ++ (all_parts steps parts.Package at d ++ all_parts steps parts.Extracted at d))

-- all elements of the document
abbrev pub elements_at : List ℕ → Data → List ElementText
elements_at at d = elements_by part_steps at d

-- ---- documentDescribes: a relationship, unless the document lists it

-- whether a relationship says that the document describes an element
abbrev pub is_describing : Data → Bool
is_describing d =
    bytes_eq (word_in (codes "spdxElementId") d) document_id
    && bytes_eq (word_in (codes "relationshipType") d) (codes "DESCRIBES")

-- this element, if the relationship says so
abbrev pub target_of : Data → List (List ℕ)
target_of d = if is_describing d then word_in (codes "relatedSpdxElement") d ∷ [] else []

-- the elements that the relationships of a list describe
abbrev pub targets_in : Items → List (List ℕ)
targets_in no_items = []
targets_in (item d ds) = target_of d ++ targets_in ds

-- the same, if there is such a list
abbrev pub targets_of : Option Items → List (List ℕ)
targets_of None = []
targets_of (Some ds) = targets_in ds

-- the identifier is among these
abbrev pub is_listed : List (List ℕ) → Option (List ℕ) → Bool
is_listed ids None = false
is_listed ids (Some id) = is_among ids id

-- one element of `documentDescribes`: no step if a relationship says so already
abbrev pub described_steps : List (List ℕ) → List ℕ → Data → List StepText
described_steps ids at d =
    if is_listed ids (as_str d) then []
    else tie_step at document_id (codes "DESCRIBES") (as_str d) ∷ []

-- the elements that the document's relationships describe
abbrev pub targets : Data → List (List ℕ)
targets d = targets_of (option_and_then as_array (get (codes "relationships") d))

-- ---- the whole

-- all steps of a document that is at a place, by those of its parts and of a relationship
abbrev pub steps_by : (Part → List ℕ → Data → List StepText) → (List ℕ → Data → List StepText)
    → List ℕ → Data → List StepText
steps_by parts tie at d =
    object_steps at document_members d
    ++ (creation_steps (member_at at (codes "creationInfo")) (get (codes "creationInfo") d)
    ++ (merged (elements_by parts at d)
    ++ (if_array (described_steps (targets d)) (member_at at (codes "documentDescribes"))
    (get (codes "documentDescribes") d)
    ++ if_array tie (member_at at (codes "relationships")) (get (codes "relationships") d))))

-- all steps of a document that is at a place
abbrev pub steps_at : List ℕ → Data → List StepText
steps_at at d = steps_by part_steps relationship_steps at d

-- some tools write the document as the member `sbom` of an object without a version
abbrev pub from_member : (List ℕ → Data → List StepText) → Data → Option Data → List StepText
from_member steps d None = steps [] d
from_member steps d (Some inner) = steps (codes "/sbom") inner

-- the steps of the document in a JSON text, by those of a document at a place
abbrev pub in_document : (List ℕ → Data → List StepText) → Data → List StepText
in_document steps d = if is_some (get (codes "spdxVersion") d) then steps [] d
    else from_member steps d (get (codes "sbom") d)

-- all steps of a JSON text
abbrev pub document_steps : Data → List StepText
document_steps d = in_document steps_at d
