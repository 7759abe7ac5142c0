-- Texts of pieces.
use Rattle.std.specs.Prelude.{ℕ, List, [], ◌∷◌, ◌++◌, Option, Some, None}

-- bytes that have several holders, if there are some
abbrev pub share_text : Option (List ℕ) → List ℕ
share_text None = []
share_text (Some bytes) = bytes

-- pieces, each of bytes of its own and then of bytes that have several holders
abbrev pub woven : List (List ℕ) → List (List ℕ) → List ℕ
woven [] shares = []
woven (own ∷ owns) [] = []
woven (own ∷ owns) (share ∷ shares) = own ++ (share ++ woven owns shares)
