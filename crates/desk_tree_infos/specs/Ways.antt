-- The folders on the way to a path.
use Rattle.std.specs.Prelude.{◌≡◌, ℕ, ◌-◌, List, [], ◌∷◌, ◌++◌, length, take, map}
use denote.Ref.{Bor}
use Rattle.desk_tree_infos.specs.Information.{rests}

-- the folder from which the rest of a path is seen
abbrev pub way : List ℕ → List ℕ → List ℕ
way path rest = take (length path - length rest) path

-- the folders on the way to a path, from the root to its own
abbrev pub ways : List ℕ → List (List ℕ)
ways path = map (way path) (path ∷ rests path)

-- the first of some rests of a path, or the path if there is none
abbrev pub first_or : List ℕ → List (List ℕ) → List ℕ
first_or path [] = path
first_or path (rest ∷ more) = rest

-- what follows the first slash, or all if there is none
abbrev pub behind_slash : List ℕ → List ℕ
behind_slash path = first_or path (rests path)

-- the first `many` folders are on the way to both paths, and the others on the way to the second
-- one are in its rest
abbrev pub Shares : List ℕ → List ℕ → ℕ → List ℕ → Type 0
Shares before path many rest =
    (both others : List (List ℕ)) × (length both ≡ many) × (ways before ≡ both ++ others)
    × (ways path ≡ both ++ map (way path) (rests rest))

-- borrowed texts as their bytes
abbrev pub lists_of : List (Bor (List ℕ)) → List (List ℕ)
lists_of lists = map (λ (l : Bor (List ℕ)). l.now) lists
