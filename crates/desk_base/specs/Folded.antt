-- A text with ASCII capitals in lower case: this is how licence and exception ids are compared
-- (SPDX 2.3, Annex D.2).
use Rattle.std.specs.Prelude.{ℕ, List, map}
use Rattle.std.specs.Char.{to_ascii_lowercase}

-- each ASCII capital in lower case, all other bytes as they are; the length stays
abbrev pub folded : List ℕ → List ℕ
folded text = map to_ascii_lowercase text
