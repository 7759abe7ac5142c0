-- Where in a document in JSON the lines of the text come from that it converts to. A place is a JSON
-- pointer (RFC 6901).
use Rattle.std.specs.Prelude.{◌≡◌, ℕ, ◌-◌, nat_lt, option_map, List, [], ◌∷◌, Option, Some, None, unwrap_or}
use Rattle.std.specs.Prelude.{if◌then◌else◌}
use Rattle.desk_fields.specs.Cutting.{FieldText}
use Rattle.desk_tagvalue.specs.Drafts.{LineText, spelled}
use Rattle.desk_tagvalue.specs.Written.{feeds, onto_line}
use Rattle.desk_spdx_json.specs.Steps.{StepText, WhatText, put}

-- how many lines the text takes that a step writes
abbrev pub lines_taken : WhatText → ℕ
lines_taken (put line) = feeds (spelled line)
lines_taken _ = 0

-- the same of the step with its place
abbrev pub line_count : StepText → ℕ
line_count s = lines_taken s.what

-- the place of the first of some steps
abbrev pub first_place : List StepText → Option (List ℕ)
first_place [] = None
first_place (s ∷ steps) = Some s.at

-- the step that wrote the line behind this many lines, if some step did
abbrev pub step_of : List StepText → ℕ → Option StepText
step_of [] lines = None
step_of (s ∷ steps) lines = if nat_lt lines (line_count s) then Some s
    else step_of steps (lines - line_count s)

-- the place of that step
abbrev pub place_of : List StepText → ℕ → Option (List ℕ)
place_of steps lines = option_map (λ s. s.at) (step_of steps lines)

-- the same; the whole document if no step wrote the line
abbrev pub place_behind : List StepText → ℕ → List ℕ
place_behind steps lines = unwrap_or (place_of steps lines) []

-- a field of the text is what the step wrote that wrote its line; lines are counted from 1
abbrev pub IsWritten : List StepText → FieldText → Type 0
IsWritten steps f = (s : StepText) × (line : LineText) × (step_of steps (f.line - 1) ≡ Some s)
    × (s.what ≡ put line) × (onto_line f.line line [] ≡ f ∷ [])
