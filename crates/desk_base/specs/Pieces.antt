-- Texts one after another in the bytes of one text, and where each ends.
use Rattle.std.specs.Prelude.{◌≡◌, ℕ, ◌≤◌, List, [], ◌∷◌, length, slice_range}
use Rattle.std.specs.Str.{IsCharBoundary}

-- the texts from a place on
abbrev pub pieces : List ℕ → ℕ → List ℕ → List (List ℕ)
pieces bytes start [] = []
pieces bytes start (end ∷ ends) = slice_range bytes start end ∷ pieces bytes end ends

-- each ends where a character does, and not before it begins, and the last one at the end of the
-- bytes
abbrev pub AreEnds : List ℕ → ℕ → List ℕ → Type 0
AreEnds bytes start [] = start ≡ length bytes
AreEnds bytes start (end ∷ ends) = (start ≤ end) × IsCharBoundary bytes end × AreEnds bytes end ends
