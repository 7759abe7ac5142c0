-- Each field of the text that steps write is what the step wrote that wrote its line.
use Rattle.std.proofs.Common.{◌≡◌, ◌∙◌, ℕ, ◌+◌, ◌-◌, ◌<◌, ◌≤◌, List, [], ◌∷◌, ◌++◌, ap, refl, subst, sym}
use Rattle.std.proofs.Common.{arith}
use Rattle.std.specs.Prelude.{All, Some, codes}
use Rattle.std.proofs.lemmas.List.Elements.{All-cons, All-nil, All-weaker}
use Rattle.desk_fields.specs.declared.tag.Tag.{Tag}
use Rattle.desk_fields.specs.Cutting.{FieldText}
use Rattle.desk_fields.specs.Tags.{tag_name}
use Rattle.desk_tagvalue.specs.Drafts.{LineText, blank, one_line, in_text, spelled}
use Rattle.desk_tagvalue.specs.Written.{feeds, field_at, fields_of_lines, onto_line}
use Rattle.desk_tagvalue.proofs.Reread.{feeds-append}
use Rattle.desk_spdx_json.specs.Steps.{StepText, WhatText, put, left_out, missing, bad_type, bad_value}
use Rattle.desk_spdx_json.specs.Steps.{differs, lines_of}
use Rattle.desk_import.specs.Places.{IsWritten, line_count, step_of}
use Rattle.desk_import.proofs.WalkLemmas.{step_of_skip, step_of_stop}

-- the same, if the first of the steps writes line n
abbrev pub IsFrom : ℕ → List StepText → FieldText → Type 0
IsFrom n steps f = (n ≤ f.line) × (s : StepText) × (line : LineText)
    × (step_of steps (f.line - n) ≡ Some s) × (s.what ≡ put line)
    × (onto_line f.line line [] ≡ f ∷ [])

-- one step more before them
later : (n : ℕ) (s : StepText) (steps : List StepText) (f : FieldText)
    → IsFrom (n + line_count s) steps f → IsFrom n (s ∷ steps) f
later n s steps f h =
    let there : f.line - n ≡ line_count s + (f.line - (n + line_count s)) = omega (arith, h.0) in (
      omega (arith, h.0),
      h.1,
      h.2,
      ap (step_of (s ∷ steps)) there ∙ step_of_skip s steps (f.line - (n + line_count s)) ∙ h.3,
      h.4,
      h.5,
    )

all_later : (n : ℕ) (s : StepText) (steps : List StepText) (fs : List FieldText)
    → All (IsFrom (n + line_count s) steps) fs → All (IsFrom n (s ∷ steps)) fs
all_later n s steps fs h =
    All-weaker (IsFrom (n + line_count s) steps) (IsFrom n (s ∷ steps)) (later n s steps) fs h

one_line_feeds : (tag : Tag) (value : List ℕ) → 1 ≤ feeds (spelled (one_line tag value))
one_line_feeds tag value =
    let at_tag = feeds-append (tag_name tag) (codes ": " ++ (value ++ (10 ∷ []))) in
    let at_colon = feeds-append (codes ": ") (value ++ (10 ∷ [])) in
    let at_value = feeds-append value (10 ∷ []) in
    let at_end : feeds (10 ∷ []) ≡ 1 = refl in
    omega arith

in_text_feeds : (tag : Tag) (value : List ℕ) → 1 ≤ feeds (spelled (in_text tag value))
in_text_feeds tag value =
    let ending = codes "</text>" ++ (10 ∷ []) in
    let at_tag = feeds-append (tag_name tag) (codes ": <text>" ++ (value ++ ending)) in
    let at_colon = feeds-append (codes ": <text>") (value ++ ending) in
    let at_value = feeds-append value ending in
    let at_close = feeds-append (codes "</text>") (10 ∷ []) in
    let at_end : feeds (10 ∷ []) ≡ 1 = refl in
    omega arith

-- the field of the step itself
here : (n : ℕ) (s : StepText) (steps : List StepText) (line : LineText) (f : FieldText)
    → f.line ≡ n → s.what ≡ put line → onto_line n line [] ≡ f ∷ [] → 0 < line_count s
    → IsFrom n (s ∷ steps) f
here n s steps line f at is writes some =
    let first : f.line - n ≡ 0 = omega (arith, at) in (
      omega (arith, at),
      s,
      line,
      ap (step_of (s ∷ steps)) first ∙ step_of_stop s steps 0 some,
      is,
      ap (λ k. onto_line k line []) at ∙ writes,
    )

-- a step that writes no line
unwritten : (n : ℕ) (s : StepText) (steps : List StepText) → line_count s ≡ 0
    → ((m : ℕ) → All (IsFrom m steps) (fields_of_lines m (lines_of steps)))
    → All (IsFrom n (s ∷ steps)) (fields_of_lines n (lines_of steps))
unwritten n s steps none rest =
    let same : n + line_count s ≡ n = omega (arith, none) in
    all_later n s steps (fields_of_lines n (lines_of steps))
    (subst (λ m. All (IsFrom m steps) (fields_of_lines n (lines_of steps))) (sym same) (rest n))

by_step : (n : ℕ) (at : List ℕ) (w : WhatText) (steps : List StepText)
    → ((m : ℕ) → All (IsFrom m steps) (fields_of_lines m (lines_of steps)))
    → All (IsFrom n (record { at = at; what = w } ∷ steps))
    (fields_of_lines n (lines_of (record { at = at; what = w } ∷ steps)))
by_step n at (put blank) steps rest =
    let s : StepText = record { at = at; what = put blank } in
    all_later n s steps _ (rest (n + line_count s))
by_step n at (put (one_line tag value)) steps rest =
    let s : StepText = record { at = at; what = put (one_line tag value) } in
    All-cons (IsFrom n (s ∷ steps)) (field_at n (tag_name tag) value) _
    (here n s steps (one_line tag value) (field_at n (tag_name tag) value) refl refl refl
    (one_line_feeds tag value))
    (all_later n s steps _ (rest (n + line_count s)))
by_step n at (put (in_text tag value)) steps rest =
    let s : StepText = record { at = at; what = put (in_text tag value) } in
    All-cons (IsFrom n (s ∷ steps)) (field_at n (tag_name tag) value) _
    (here n s steps (in_text tag value) (field_at n (tag_name tag) value) refl refl refl
    (in_text_feeds tag value))
    (all_later n s steps _ (rest (n + line_count s)))
by_step n at (left_out kind) steps rest = unwritten n (record { at = at; what = left_out kind }) steps refl rest
by_step n at missing steps rest = unwritten n (record { at = at; what = missing }) steps refl rest
by_step n at bad_type steps rest = unwritten n (record { at = at; what = bad_type }) steps refl rest
by_step n at bad_value steps rest = unwritten n (record { at = at; what = bad_value }) steps refl rest
by_step n at (differs first) steps rest = unwritten n (record { at = at; what = differs first }) steps refl rest

pub all_from : (n : ℕ) (steps : List StepText) → All (IsFrom n steps) (fields_of_lines n (lines_of steps))
all_from n [] = All-nil (IsFrom n [])
all_from n (s ∷ steps) = by_step n s.at s.what steps (λ m. all_from m steps)

pub all_written : (steps : List StepText) → All (IsWritten steps) (fields_of_lines 1 (lines_of steps))
all_written steps =
    All-weaker (IsFrom 1 steps) (IsWritten steps) (λ f h. (h.1, h.2, h.3, h.4, h.5))
    (fields_of_lines 1 (lines_of steps)) (all_from 1 steps)
