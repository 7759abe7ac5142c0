-- The steps of a member's value.
use Rattle.std.specs.Prelude.{ℕ, ◌+◌, Bool, true, false, List, [], ◌∷◌, ◌++◌, Option, Some, None}
use Rattle.std.specs.Prelude.{option_and_then, option_map, codes, if◌then◌else◌}
use Rattle.desk_fields.specs.declared.tag.Tag.{Tag}
use Rattle.desk_tagvalue.specs.Drafts.{LineText, one_line, in_text}
use Rattle.serde_json.specs.Data.{Data, Items, no_items, item}
use Rattle.serde_json.specs.Find.{get, as_str, as_bool, as_array}
use Rattle.desk_spdx_json.specs.declared.steps.Kind.{Kind}
use Rattle.desk_spdx_json.specs.declared.members.Form.{Form}
use Rattle.desk_spdx_json.specs.declared.members.Form.TheVariants as forms
use Rattle.desk_spdx_json.specs.Words.{is_word, is_name, is_keyword}
use Rattle.desk_spdx_json.specs.Steps.{StepText, WhatText, step, put, left_out, missing, bad_type}
use Rattle.desk_spdx_json.specs.Steps.{bad_value, member_at, item_at}
pub use Rattle.desk_spdx_files.specs.Texts.{text_or_empty, word_in}

-- ---- texts and flags

-- the line of a text, if the value is one
abbrev pub line_what : (List ℕ → LineText) → Option (List ℕ) → WhatText
line_what line None = bad_type
line_what line (Some text) = put (line text)

-- the same as a step at a place
abbrev pub line_step : List ℕ → (List ℕ → LineText) → Option (List ℕ) → StepText
line_step at line text = step at (line_what line text)

-- NONE and NOASSERTION are written as they are, any other text in <text>
abbrev pub copyright_line : Tag → List ℕ → LineText
copyright_line tag text = if is_keyword text then one_line tag text else in_text tag text

-- a truth value as the tag-value form has it
abbrev pub flag_text : Bool → List ℕ
flag_text true = codes "true"
flag_text false = codes "false"

-- the line of a text of an array
abbrev pub text_steps : Tag → List ℕ → Data → List StepText
text_steps tag at d = line_step at (one_line tag) (as_str d) ∷ []

-- ---- arrays, by the steps of an item

-- what each item gives, such as its steps; the first one here has the number i
abbrev pub items_steps : {A : Type 0} → (List ℕ → Data → List A) → List ℕ → ℕ → Items → List A
items_steps steps at i no_items = []
items_steps steps at i (item d ds) = steps (item_at at i) d ++ items_steps steps at (i + 1) ds

-- the steps of the items of an array, or a fault if the value is none
abbrev pub in_array : (List ℕ → Data → List StepText) → List ℕ → Option Items → List StepText
in_array steps at None = step at bad_type ∷ []
in_array steps at (Some ds) = items_steps steps at 0 ds

-- the same, or no steps if there is no value
abbrev pub if_array : (List ℕ → Data → List StepText) → List ℕ → Option Data → List StepText
if_array steps at None = []
if_array steps at (Some d) = in_array steps at (as_array d)

-- ---- values that are composed of several members

-- what is wrong with a member that must be a text that passes a test
abbrev pub text_fault : List ℕ → (List ℕ → Bool) → Option (List ℕ) → List StepText
text_fault at test None = step at bad_type ∷ []
text_fault at test (Some text) = if test text then [] else step at bad_value ∷ []

-- what is wrong with a member that must be a word: it may also be missing
abbrev pub found_fault : List ℕ → Option Data → List StepText
found_fault at None = step at missing ∷ []
found_fault at (Some d) = text_fault at is_word (as_str d)

-- the same for the member with a key
abbrev pub word_fault : List ℕ → List ℕ → Data → List StepText
word_fault at key d = found_fault (member_at at key) (get key d)

-- a checksum (clause 8.4)
abbrev pub checksum_line : Tag → Data → LineText
checksum_line tag d = one_line tag
    (word_in (codes "algorithm") d ++ (codes ": " ++ word_in (codes "checksumValue") d))

-- a checksum is written only if its algorithm and its value are words
abbrev pub checksum_steps : Tag → List ℕ → Data → List StepText
checksum_steps tag at d =
    word_fault at (codes "algorithm") d
    ++ (word_fault at (codes "checksumValue") d ++ step at (put (checksum_line tag d)) ∷ [])

-- what is wrong with the name of a file that a verification code excludes (clause 7.9)
abbrev pub name_fault : List ℕ → Data → List StepText
name_fault at d = text_fault at is_name (as_str d)

-- the names after the first one, each after a comma and a blank
abbrev pub more_names : Items → List ℕ
more_names no_items = []
more_names (item d ds) = codes ", " ++ (text_or_empty (as_str d) ++ more_names ds)

-- the names between parentheses behind the code; nothing for an empty list
abbrev pub names_text : Items → List ℕ
names_text no_items = []
names_text (item d ds) = codes " (excludes: "
    ++ (text_or_empty (as_str d) ++ (more_names ds ++ codes ")"))

-- the same, if there is such a list
abbrev pub excluded_text : Option Items → List ℕ
excluded_text None = []
excluded_text (Some ds) = names_text ds

-- the list of the files that a verification code excludes
abbrev pub names_in : Data → Option Data
names_in d = get (codes "packageVerificationCodeExcludedFiles") d

-- a verification code
abbrev pub code_line : Tag → Data → LineText
code_line tag d = one_line tag
    (word_in (codes "packageVerificationCodeValue") d
    ++ excluded_text (option_and_then as_array (names_in d)))

-- a verification code: its value must be a word, and each excluded file a name
abbrev pub code_steps : List ℕ → Tag → Data → List StepText
code_steps at tag d =
    word_fault at (codes "packageVerificationCodeValue") d
    ++ (if_array name_fault (member_at at (codes "packageVerificationCodeExcludedFiles"))
    (names_in d) ++ step at (put (code_line tag d)) ∷ [])

-- ---- what is left out: each item of an array, or any other value as one

-- each item of an array counts as one, whatever it is
abbrev pub left_items : Kind → Items → List StepText
left_items kind no_items = []
left_items kind (item d ds) = step [] (left_out kind) ∷ left_items kind ds

-- each item, or the value itself if it is no array
abbrev pub left_steps : Kind → Option Items → List StepText
left_steps kind None = step [] (left_out kind) ∷ []
left_steps kind (Some ds) = left_items kind ds

-- ---- all of them

-- the steps of a value by its member's form; what is written elsewhere has none here
abbrev pub value_steps : List ℕ → Form → Data → List StepText
value_steps at (forms.OneLine tag) d = line_step at (one_line tag) (as_str d) ∷ []
value_steps at (forms.InText tag) d = line_step at (in_text tag) (as_str d) ∷ []
value_steps at (forms.Copyright tag) d = line_step at (copyright_line tag) (as_str d) ∷ []
value_steps at (forms.Flag tag) d = line_step at (one_line tag) (option_map flag_text (as_bool d))
    ∷ []
value_steps at (forms.Texts tag) d = in_array (text_steps tag) at (as_array d)
value_steps at (forms.Checksums tag) d = in_array (checksum_steps tag) at (as_array d)
value_steps at (forms.Code tag) d = code_steps at tag d
value_steps at (forms.LeftOut kind) d = left_steps kind (as_array d)
value_steps at forms.Elsewhere d = []
