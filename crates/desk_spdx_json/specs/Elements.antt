-- The elements of a document, each of which is written once: an identifier is unique within a
-- document (SPDX 2.3, clauses 7.2, 8.2, 9.1 and 10.1).
use Rattle.std.specs.Prelude.{◌≡◌, ℕ, List, [], ◌∷◌, ◌++◌, String, Option, Some, None, option_map, if◌then◌else◌}
use Rattle.std.specs.Option.{option_or}
use Rattle.std.specs.declared.alloc.Global.{Global}
use Rattle.std.specs.BTreeMap.{BTreeMap, get_by_text}
use Rattle.std.specs.Str.{bytes_eq}
use Rattle.std.specs.String.{string_bytes}
use Rattle.desk_tagvalue.specs.Drafts.{text_of_lines}
use Rattle.desk_spdx_json.specs.declared.elements.Element.{Element}
use Rattle.desk_spdx_json.specs.declared.elements.Seen.{Seen}
use Rattle.desk_spdx_json.specs.Steps.{StepText, differs, lines_of, step, unwritten}

-- an element: its place, its identifier and its steps
pub record ElementText : Type 0 where
  pub at : List ℕ
  pub id : List ℕ
  pub steps : List StepText

-- the same, apart from where its texts are in memory
abbrev pub element_text : Element → ElementText
element_text e = record { at = string_bytes e.at; id = string_bytes e.id; steps = e.steps }

-- what the desk reads of an element: the text of its lines
abbrev pub read_of : List StepText → List ℕ
read_of steps = text_of_lines (lines_of steps)

-- what is kept of an element: its place, and what the desk reads of it
pub record SeenText : Type 0 where
  pub at : List ℕ
  pub text : List ℕ

-- of this element
abbrev pub kept_of : ElementText → SeenText
kept_of e = record { at = e.at; text = read_of e.steps }

-- the same, apart from where its texts are in memory
abbrev pub seen_text : Seen → SeenText
seen_text s = record { at = string_bytes s.at; text = string_bytes s.text }

-- of this element, if it has the identifier
abbrev pub kept_if : List ℕ → ElementText → Option SeenText
kept_if id e = if bytes_eq e.id id then Some (kept_of e) else None

-- of the first element with an identifier
abbrev pub first_with : List ℕ → List ElementText → Option SeenText
first_with id [] = None
first_with id (e ∷ es) = option_or (kept_if id e) (first_with id es)

-- the steps of an element, given the first one before it with its identifier: if the desk reads the
-- same of both, no line is written again, and what the later one leaves out is counted; if not, it
-- is a fault
abbrev pub steps_beside : ElementText → Option SeenText → List StepText
steps_beside e None = e.steps
steps_beside e (Some first) = if bytes_eq first.text (read_of e.steps) then unwritten e.steps
    else step e.at (differs first.at) ∷ []

-- the steps of elements, after others
abbrev pub merged_after : List ElementText → List ElementText → List StepText
merged_after before [] = []
merged_after before (e ∷ es) = steps_beside e (first_with e.id before)
    ++ merged_after (before ++ e ∷ []) es

-- the steps of all elements of a document
abbrev pub merged : List ElementText → List StepText
merged es = merged_after [] es

-- ---- a map of the elements so far

-- what a map has for an identifier
abbrev pub seen_in : BTreeMap (String Global) Seen → List ℕ → Option SeenText
seen_in seen id = option_map seen_text (get_by_text seen id)

-- a map has the first of these elements with each identifier
abbrev pub Sees : List ElementText → BTreeMap (String Global) Seen → Type 0
Sees before seen = (id : List ℕ) → seen_in seen id ≡ first_with id before

-- an element is added to a map, unless it has one with that identifier
abbrev pub Keeps : ElementText → BTreeMap (String Global) Seen → BTreeMap (String Global) Seen
    → Type 0
Keeps e old new = (id : List ℕ) → seen_in new id ≡ option_or (seen_in old id) (kept_if id e)
