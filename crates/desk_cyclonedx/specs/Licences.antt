-- The licences of a component (CycloneDX 1.4 to 1.6, JSON schema, `licenseChoice`): a list of
-- licences by id or name, or of one expression.
use Rattle.std.specs.Prelude.{ℕ, ◌+◌, Bool, ◌&&◌, ◌||◌, ◌==◌, true, false, not, List, [], ◌∷◌, ◌++◌, length, codes}
use Rattle.std.specs.Prelude.{Option, Some, None, is_some, option_and_then, unwrap_or, if◌then◌else◌, nat_lt}
use Rattle.std.specs.Str.{bytes_eq}
use Rattle.desk_fields.specs.declared.tag.Tag.{Tag}
use Rattle.desk_fields.specs.declared.tag.Tag.TheVariants as tags
use Rattle.desk_tagvalue.specs.Drafts.{blank, in_text, one_line}
use Rattle.serde_json.specs.Data.{Data, Items, no_items, item}
use Rattle.serde_json.specs.Find.{get, as_str}
use Rattle.desk_spdx_json.specs.declared.steps.Kind.TheVariants as kinds
use Rattle.desk_spdx_json.specs.declared.members.Form.TheVariants as forms
use Rattle.desk_spdx_json.specs.Elements.{ElementText}
use Rattle.desk_spdx_json.specs.Members.{MemberText, perhaps}
use Rattle.desk_spdx_json.specs.Parts.{object_steps}
use Rattle.desk_spdx_json.specs.Steps.{StepText, step, put, left_out, missing, member_at}
use Rattle.desk_spdx_json.specs.Values.{items_steps, text_fault, word_in}
use Rattle.desk_cyclonedx.specs.Names.{is_licence_id, reference_of}

-- ---- one licence

-- the object in the member `license`, or the item itself, which has an expression
abbrev pub licence_of : Data → Data
licence_of d = unwrap_or (get (codes "license") d) d

-- the licence was concluded; without `acknowledgement` it was declared
abbrev pub is_concluded : Data → Bool
is_concluded d = bytes_eq (word_in (codes "acknowledgement") (licence_of d)) (codes "concluded")

-- the text of a licence, if it isn't encoded
abbrev pub plain_content : Data → Option (List ℕ)
plain_content d = if is_some (get (codes "encoding") d) then None
    else option_and_then as_str (get (codes "content") d)

-- the text that belongs to a licence which is named and has no SPDX identifier
abbrev pub licence_text : Data → Option (List ℕ)
licence_text l = if is_some (get (codes "id") l) || is_licence_id (word_in (codes "name") l)
    then None else option_and_then plain_content (get (codes "text") l)

-- a name as a term of an expression: itself if it can be an identifier
abbrev pub named_term : List ℕ → Data → List ℕ
named_term name l = if is_licence_id name then name else reference_of name (licence_text l)

-- the identifier, or the name as a term
abbrev pub licence_term : Data → List ℕ
licence_term l = if is_some (get (codes "id") l) then word_in (codes "id") l
    else named_term (word_in (codes "name") l) l

-- the expression, or the term of a licence
abbrev pub term_of : Data → List ℕ
term_of d = if is_some (get (codes "expression") d) then word_in (codes "expression") d
    else licence_term (licence_of d)

-- ---- all licences of a component

-- one more term
abbrev pub with_term : List ℕ → List ℕ → List ℕ
with_term text term = if length text == 0 then term else text ++ (codes " AND " ++ term)

-- two truth values are the same
abbrev pub same_bool : Bool → Bool → Bool
same_bool true b = b
same_bool false b = not b

-- a text with the term of a licence, if that was concluded, or declared, as is asked for
abbrev pub with_licence : Bool → List ℕ → Data → List ℕ
with_licence concluded text d = if same_bool concluded (is_concluded d)
    then with_term text (term_of d) else text

-- the terms of licences, joined by AND, after a text
abbrev pub joined_onto : Bool → List ℕ → Items → List ℕ
joined_onto concluded text no_items = text
joined_onto concluded text (item d ds) = joined_onto concluded (with_licence concluded text d) ds

-- the line of the concluded or the declared licences, if there are any
abbrev pub terms_steps : List ℕ → Tag → List ℕ → List StepText
terms_steps at tag terms = if length terms == 0 then [] else step at (put (one_line tag terms)) ∷ []

-- ---- what is wrong with a licence, and what is left out of it

-- the members of the object in `license`; a text that isn't written is left out
abbrev pub licence_members : List MemberText
licence_members =
    perhaps (codes "id") forms.Elsewhere
    ∷ perhaps (codes "name") forms.Elsewhere
    ∷ perhaps (codes "acknowledgement") forms.Elsewhere
    ∷ perhaps (codes "text") forms.Elsewhere
    ∷ []

-- the members of an expression's item
abbrev pub expression_members : List MemberText
expression_members =
    perhaps (codes "expression") forms.Elsewhere
    ∷ perhaps (codes "acknowledgement") forms.Elsewhere
    ∷ []

-- a text that isn't written
abbrev pub text_left : Data → List StepText
text_left l = if is_some (get (codes "text") l) && not (is_some (licence_text l))
    then step [] (left_out kinds.Field) ∷ [] else []

-- the name must be a text
abbrev pub name_fault : List ℕ → Option Data → List StepText
name_fault at None = step at missing ∷ []
name_fault at (Some d) = text_fault at (λ text. true) (as_str d)

-- an id must be an SPDX licence identifier; without an id there must be a name
abbrev pub id_fault : List ℕ → Data → Option Data → List StepText
id_fault at l None = name_fault (member_at at (codes "name")) (get (codes "name") l)
id_fault at l (Some d) = text_fault (member_at at (codes "id")) is_licence_id (as_str d)

-- the object in the member `license`
abbrev pub license_steps : List ℕ → Option Data → List StepText
license_steps at None = step at missing ∷ []
license_steps at (Some l) = object_steps at licence_members l
    ++ (id_fault at l (get (codes "id") l) ++ text_left l)

-- an expression stands alone in its list
abbrev pub may_stand : Bool → List ℕ → Bool
may_stand alone text = alone && nat_lt 0 (length text)

-- an item, by its expression
abbrev pub choice_steps : Bool → List ℕ → Data → Option Data → List StepText
choice_steps alone at d None = license_steps (member_at at (codes "license"))
    (get (codes "license") d)
choice_steps alone at d (Some e) = object_steps at expression_members d
    ++ text_fault (member_at at (codes "expression")) (may_stand alone) (as_str e)

-- an item of the list
abbrev pub item_steps : Bool → List ℕ → Data → List StepText
item_steps alone at d = choice_steps alone at d (get (codes "expression") d)

-- how many items there are
abbrev pub count : Items → ℕ
count no_items = 0
count (item d ds) = count ds + 1

-- all steps of a list of licences
abbrev pub list_steps : List ℕ → Items → List StepText
list_steps at ds =
    terms_steps at tags.PackageConcluded (joined_onto true [] ds)
    ++ (terms_steps at tags.PackageDeclared (joined_onto false [] ds)
    ++ items_steps (item_steps (count ds == 1)) at 0 ds)

-- ---- licences with a text, which are elements of the document

-- the element of a licence with its text
abbrev pub extracted_element : List ℕ → List ℕ → List ℕ → ElementText
extracted_element at reference text = record {
  at = at;
  id = reference;
  steps = step at (put blank) ∷ step at (put (one_line tags.LicenseIdentifier reference))
      ∷ step (member_at at (codes "text")) (put (in_text tags.ExtractedText text)) ∷ [];
}

-- the same, if there is a text
abbrev pub extracted_by : List ℕ → Data → Option (List ℕ) → List ElementText
extracted_by at l None = []
extracted_by at l (Some text) =
    extracted_element at (reference_of (word_in (codes "name") l) (Some text)) text ∷ []

-- of an item of the list
abbrev pub item_elements : List ℕ → Data → List ElementText
item_elements at d = if is_some (get (codes "expression") d) then []
    else extracted_by (member_at at (codes "license")) (licence_of d) (licence_text (licence_of d))
