-- Texts and the trees that they spell.
use Rattle.std.specs.Prelude.{ℕ, List, [], ◌∷◌}
use Rattle.desk_expr.specs.Tree.{Tree}
use Rattle.desk_expr.specs.Spelling.{Spells}

-- each text spells the tree at its place
abbrev pub EachSpells : List (List ℕ) → List Tree → Type 0
EachSpells [] [] = Unit {0}
EachSpells [] (e ∷ es) = ⊥
EachSpells (t ∷ ts) [] = ⊥
EachSpells (t ∷ ts) (e ∷ es) = Spells t e × EachSpells ts es
