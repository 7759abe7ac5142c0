-- Names by their parts.
use Rattle.std.specs.Prelude.{ℕ, List, [], ◌∷◌, Option}
use Rattle.desk_tree_lint.specs.declared.naming.Name.{Name}

-- identifiers, each with the path at its place
abbrev pub names_in : List (List ℕ) → List (Option (List ℕ)) → List Name
names_in [] paths = []
names_in (id ∷ ids) [] = []
names_in (id ∷ ids) (path ∷ paths) = record { id = id; path = path } ∷ names_in ids paths
