-- The value of a text, the faults of a document, and the fields of its text.
use Rattle.std.proofs.Common.{◌≡◌, ◌⊎◌, inl, inr, ℕ, List, [], ◌∷◌, ◌++◌, Bool, true, false, Some}
use Rattle.std.proofs.Common.{None, Ok, refl, sym, subst, arith, IsUtf8, codes, append_assoc, ◌≤◌, length}
use Rattle.std.specs.Prelude.{All, if◌then◌else◌}
use Rattle.std.specs.Str.{is_utf8}
use Rattle.std.proofs.lemmas.Str.{IsUtf8-from_is_utf8, is_utf8-from_IsUtf8}
use Rattle.std.proofs.lemmas.List.Elements.{All-append, All-cons, All-nil, All-get_or, All-tail}
use Rattle.serde_json.specs.Data.{Data}
use Rattle.serde_json.specs.Read.{read}
use Rattle.desk_fields.specs.declared.tag.Tag.{Tag}
use Rattle.desk_fields.specs.Cutting.{Reads, behind_mark}
use Rattle.desk_fields.specs.Tags.{tag_name}
use Rattle.desk_tagvalue.specs.Drafts.{LineText, blank, one_line, in_text, text_of_lines}
use Rattle.desk_tagvalue.specs.Written.{Stands, fields_of_lines}
use Rattle.desk_tagvalue.proofs.LinesReread.{lines_again}
use Rattle.desk_tagvalue.proofs.WriteLemmas.{mark_behind}
use Rattle.desk_import.specs.declared.faults.ConvertFault.{ConvertFault}
use Rattle.desk_import.specs.declared.faults.ConvertFault.TheVariants as faults
use Rattle.desk_spdx_files.specs.declared.idle.Files.{Files}
use Rattle.desk_spdx_json.specs.Steps.{StepText, WhatText, put, left_out, missing, bad_type, bad_value}
use Rattle.desk_spdx_json.specs.Steps.{differs}
use Rattle.desk_import.specs.Results.{Goes, Passes, FailsAt, FailsFirst, IsRefused, IsUnread, json_bytes, json_in, json_of, steps_of}
use Rattle.desk_spdx_json.specs.Steps.{line_in, lines_of}

-- ---- the value of a text

pub json_in-json : (bytes : List ℕ) (d : Data) → IsUtf8 bytes → read bytes ≡ Some d
    → json_in bytes ≡ Some d
json_in-json bytes d utf8 is = rw (is_utf8-from_IsUtf8 bytes utf8) is

by_test : (bytes : List ℕ) (b : Bool) → is_utf8 bytes ≡ b → (IsUtf8 bytes → read bytes ≡ None)
    → (if b then read bytes else None) ≡ None
by_test bytes true is none = none (IsUtf8-from_is_utf8 bytes is)
by_test bytes false is none = refl

pub json_in-other : (bytes : List ℕ) → (IsUtf8 bytes → read bytes ≡ None) → json_in bytes ≡ None
json_in-other bytes none = by_test bytes (is_utf8 bytes) refl none

-- ---- a fault of a step gives its place

too_large : (at : List ℕ) (w : WhatText) → FailsAt at w faults.TooLarge → ⊥
too_large at (put line) h = absurd (let e = h.0 in cc)
too_large at (left_out kind) h = h
too_large at missing h = cc
too_large at bad_type h = cc
too_large at bad_value h = cc
too_large at (differs first) h = cc

not_json : (at : List ℕ) (w : WhatText) → FailsAt at w faults.NotJson → ⊥
not_json at (put line) h = absurd (let e = h.0 in cc)
not_json at (left_out kind) h = h
not_json at missing h = cc
not_json at bad_type h = cc
not_json at bad_value h = cc
not_json at (differs first) h = cc

pub refused : (wanted : Files) (bytes : List ℕ) (d : Data) (fault : ConvertFault) → length bytes ≤ json_bytes
    → json_of bytes ≡ Some d → (fault ≡ faults.Memory) ⊎ FailsFirst (steps_of wanted d) fault
    → (fault ≡ faults.Memory) ⊎ IsRefused wanted bytes fault
refused wanted bytes d fault few is (inl m) = inl m
refused wanted bytes d faults.Memory few is (inr f) = inl refl
refused wanted bytes d faults.TooLarge few is (inr f) =
    absurd (too_large f.failing.at f.failing.what f.fails)
refused wanted bytes d faults.NotJson few is (inr f) =
    absurd (not_json f.failing.at f.failing.what f.fails)
refused wanted bytes d (faults.Missing at) few is (inr f) = inr (few, d, is, f)
refused wanted bytes d (faults.BadType at) few is (inr f) = inr (few, d, is, f)
refused wanted bytes d (faults.BadValue at) few is (inr f) = inr (few, d, is, f)
refused wanted bytes d (faults.Differs at first) few is (inr f) = inr (few, d, is, f)

-- bytes that are no JSON
pub refused_json : (bytes : List ℕ) (fault : ConvertFault) → length bytes ≤ json_bytes
    → (fault ≡ faults.Memory) ⊎ ((fault ≡ faults.NotJson) × (json_of bytes ≡ None))
    → (fault ≡ faults.Memory) ⊎ IsUnread bytes fault
refused_json bytes fault few (inl m) = inl m
refused_json bytes fault few (inr none) =
    inr (subst (IsUnread bytes) (sym none.0) (few, none.1))

-- bytes that aren't read are refused
pub unread : (wanted : Files) (bytes : List ℕ) (fault : ConvertFault)
    → (fault ≡ faults.Memory) ⊎ IsUnread bytes fault
    → (fault ≡ faults.Memory) ⊎ IsRefused wanted bytes fault
unread wanted bytes fault (inl m) = inl m
unread wanted bytes faults.Memory (inr h) = absurd h
unread wanted bytes faults.TooLarge (inr h) = inr h
unread wanted bytes faults.NotJson (inr h) = inr h
unread wanted bytes (faults.Missing at) (inr h) = absurd h
unread wanted bytes (faults.BadType at) (inr h) = absurd h
unread wanted bytes (faults.BadValue at) (inr h) = absurd h
unread wanted bytes (faults.Differs at first) (inr h) = absurd h

-- ---- the text is read as the fields of its lines

line_stands : (w : WhatText) → Goes w → All Stands (line_in w)
line_stands (put line) h = All-cons Stands line [] h (All-nil Stands)
line_stands (left_out kind) h = All-nil Stands
line_stands missing h = absurd h
line_stands bad_type h = absurd h
line_stands bad_value h = absurd h
line_stands (differs first) h = absurd h

pub all_stand : (steps : List StepText) → All Passes steps → All Stands (lines_of steps)
all_stand [] h = All-nil Stands
all_stand (s ∷ steps) h =
    All-append Stands (line_in s.what) (lines_of steps)
    (line_stands s.what (All-get_or Passes (s ∷ steps) 0 s (omega arith) h))
    (all_stand steps (All-tail Passes s steps h))

tagged : (tag : Tag) (inner rest : List ℕ) → behind_mark (inner ++ rest) ≡ inner ++ rest
    → behind_mark ((tag_name tag ++ inner) ++ rest) ≡ (tag_name tag ++ inner) ++ rest
tagged tag inner rest h = subst (λ t. behind_mark t ≡ t)
    (sym (append_assoc (tag_name tag) inner rest)) (mark_behind tag (inner ++ rest) h)

pub unmarked : (ls : List LineText) → behind_mark (text_of_lines ls) ≡ text_of_lines ls
unmarked [] = refl
unmarked (blank ∷ ls) = refl
unmarked (one_line tag value ∷ ls) = tagged tag (codes ": " ++ (value ++ (10 ∷ [])))
    (text_of_lines ls) refl
unmarked (in_text tag value ∷ ls) = tagged tag
    (codes ": <text>" ++ (value ++ (codes "</text>" ++ (10 ∷ [])))) (text_of_lines ls) refl

pub fields_again : (steps : List StepText) (text : List ℕ) → text ≡ text_of_lines (lines_of steps)
    → All Passes steps → Reads 1 (behind_mark text) (Ok (fields_of_lines 1 (lines_of steps)))
fields_again steps text is pass =
    subst (λ t. Reads 1 (behind_mark t) (Ok (fields_of_lines 1 (lines_of steps)))) (sym is)
    (subst (λ t. Reads 1 t (Ok (fields_of_lines 1 (lines_of steps))))
    (sym (unmarked (lines_of steps)))
    (lines_again (lines_of steps) (all_stand steps pass) 1 (omega arith)))
