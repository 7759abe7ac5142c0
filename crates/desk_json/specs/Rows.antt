-- The text of a row in a list of rows.
use Rattle.std.specs.Prelude.{ℕ, List, ◌∷◌}
use Rattle.serde_json.specs.Data.{Data}
use Rattle.serde_json.specs.Written.{compact_text}

-- 44 is the comma
abbrev pub behind_a_comma : Data → List ℕ
behind_a_comma row = 44 ∷ compact_text row
