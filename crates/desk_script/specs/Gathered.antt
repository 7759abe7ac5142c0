-- What is kept of a line as far as it came.
use Rattle.std.specs.Prelude.{◌≡◌, ◌≢◌, ℕ, ◌-◌, Bool, true, false, List, [], ◌∷◌, ◌++◌, nat_lt}
use Rattle.std.specs.Prelude.{length, take, slice_index}
use Rattle.desk_base.specs.Limits.{line_bytes}
use Rattle.desk_script.specs.Lines.{is_blank_line}
use Rattle.desk_script.specs.declared.line.Line.{Line}

-- these bytes of a line came: as many as a request may have are kept, and it is known whether there
-- are more, and whether they are blank
pub record HasCome (line : Line) (text : List ℕ) : Type 0 where
  pub kept : line.kept.items ≡ take line_bytes text
  pub long : line.is_long ≡ nat_lt line_bytes (length text)
  pub blank : line.is_blank ≡ is_blank_line text

-- bytes, and perhaps a CR after them
abbrev pub with_cr : Bool → List ℕ → List ℕ
with_cr true text = text ++ 13 ∷ []
with_cr false text = text

-- these bytes came since the last LF; a CR at their end is kept apart
abbrev pub Shows : Line → List ℕ → Type 0
Shows line came = (text : List ℕ) × HasCome line text × (came ≡ with_cr line.ends_by_cr text)
    × (line.ends_by_cr ≡ false → slice_index text (length text - 1) ≢ 13)
