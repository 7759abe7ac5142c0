-- Sets of terms. 10 is the line feed.
use Rattle.std.specs.Prelude.{ℕ, List, [], ◌∷◌, ◌++◌, codes}
use Rattle.std.specs.List.{flat_map}
use Rattle.desk_base.specs.Terminal.{shown}

-- a term after a comma and a blank
abbrev pub behind : List ℕ → List ℕ
behind term = codes ", " ++ term

-- the terms, joined by a comma and a blank
abbrev pub joined : List (List ℕ) → List ℕ
joined [] = []
joined (term ∷ others) = term ++ flat_map behind others

-- the line of a set
abbrev pub set_line : List (List ℕ) → List ℕ
set_line terms = shown (joined terms) ++ 10 ∷ []

-- a line for each set
unfoldable pub sets_shown : List (List (List ℕ)) → List ℕ
sets_shown sets = flat_map set_line sets
