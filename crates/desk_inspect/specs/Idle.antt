-- What is said of a document that is attached to a release and ships no package.
use Rattle.std.specs.Prelude.{◌++◌, ◌∷◌, [], ℕ, List, codes, decimal}

-- the line that says so, of the document with this number
abbrev pub idle_line : ℕ → List ℕ
idle_line number = codes "document " ++ (decimal number
    ++ codes " ships no package, and raises no duty\n")

-- the program's status, if some documents are such: what else it would be, or refused
abbrev pub status_with : ℕ → List ℕ → ℕ
status_with status [] = status
status_with status (number ∷ more) = 1
