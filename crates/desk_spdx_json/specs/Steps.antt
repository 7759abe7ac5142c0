-- The steps of a conversion: what is done at each place of a JSON value, in the order of the lines.
use Rattle.std.specs.Prelude.{ℕ, ◌++◌, List, [], ◌∷◌, Bool, true, false, not, filter, codes}
use Rattle.std.specs.List.{flat_map}
use Rattle.std.specs.Fmt.{decimal}
use Rattle.std.specs.String.{string_bytes}
use Rattle.desk_tagvalue.specs.Drafts.{LineText, blank, one_line, in_text}
use Rattle.desk_spdx_json.specs.declared.steps.Kind.{Kind}
use Rattle.desk_spdx_json.specs.declared.steps.Step.{Step}
use Rattle.desk_spdx_json.specs.declared.steps.What.{What}
use Rattle.desk_spdx_json.specs.declared.steps.What.TheVariants as what

-- a line is written; something is left out; a required member is missing; a value is of the wrong
-- type; a value can't be written in its field; an element has the identifier of another one, which
-- is at this place, and isn't the same
pub data WhatText : Type 0 where
  put : LineText → WhatText
  left_out : Kind → WhatText
  missing : WhatText
  bad_type : WhatText
  bad_value : WhatText
  differs : List ℕ → WhatText

-- what a step does, apart from where its text is in memory
abbrev pub what_text : What → WhatText
what_text what.Blank = put blank
what_text (what.OneLine tag text) = put (one_line tag text.now)
what_text (what.InText tag text) = put (in_text tag text.now)
what_text (what.Composed tag text) = put (one_line tag (string_bytes text))
what_text (what.LeftOut kind) = left_out kind
what_text what.Missing = missing
what_text what.BadType = bad_type
what_text what.BadValue = bad_value
what_text (what.Differs at) = differs (string_bytes at)

-- the place is a JSON pointer (RFC 6901)
pub record StepText : Type 0 where
  pub at : List ℕ
  pub what : WhatText

-- the same with its place
abbrev pub step_text : Step → StepText
step_text s = record { at = string_bytes s.at; what = what_text s.what }

-- one thing to do at a place
abbrev pub step : List ℕ → WhatText → StepText
step at what = record { at = at; what = what }

-- ---- the lines among them

-- the line of what a step does
abbrev pub line_in : WhatText → List LineText
line_in (put line) = line ∷ []
line_in _ = []

-- the line that a step writes, if it writes one
abbrev pub lines_in : StepText → List LineText
lines_in s = line_in s.what

-- the lines that steps write, in order
abbrev pub lines_of : List StepText → List LineText
lines_of steps = flat_map lines_in steps

-- a line is written
abbrev pub is_put : WhatText → Bool
is_put (put line) = true
is_put _ = false

-- the step writes a line
abbrev pub is_line : StepText → Bool
is_line s = is_put s.what

-- the steps that write no line
abbrev pub unwritten : List StepText → List StepText
unwritten steps = filter (λ s. not (is_line s)) steps

-- ---- places

-- the place of a member of an object, and of an item of an array
abbrev pub member_at : List ℕ → List ℕ → List ℕ
member_at at key = at ++ (codes "/" ++ key)

-- items are counted from 0
abbrev pub item_at : List ℕ → ℕ → List ℕ
item_at at i = at ++ (codes "/" ++ decimal i)
