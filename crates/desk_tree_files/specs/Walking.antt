-- What is met on the way through the folders of a tree. 47 is `/`.
use Rattle.std.specs.Prelude.{ℕ, ◌&&◌, Bool, List, [], ◌∷◌, ◌++◌, map, codes, if◌then◌else◌}
use Rattle.std.specs.Str.{bytes_eq}
use Rattle.std.specs.List.Sorted.{IsSorted}
use Rattle.std.specs.Ordering.{nat_cmp}
use Rattle.std.specs.Cmp.Lexicographic.{slice_cmp}
use Rattle.desk_tree_gather.specs.declared.files.SourceFile.{SourceFile}

-- the path of an entry with a name in a folder; the root is the folder without a name
abbrev pub joined : List ℕ → List ℕ → List ℕ
joined folder name = if bytes_eq folder [] then name else folder ++ 47 ∷ name

-- `.git` at the root
abbrev pub is_left_out : List ℕ → List ℕ → Bool
is_left_out folder name = bytes_eq folder [] && bytes_eq name (codes ".git")

-- files by path
abbrev pub AreByPath : List SourceFile → Type 0
AreByPath files = IsSorted (slice_cmp nat_cmp) (map (λ (f : SourceFile). f.path) files)
