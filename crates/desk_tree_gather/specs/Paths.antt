-- The paths of a tree: which may be there, which files give licences, and which are covered (REUSE
-- Specification 3.3, "Covered Files"). 47 is `/`.
use Rattle.std.specs.Prelude.{ℕ, ◌==◌, ◌-◌, ◌&&◌, ◌||◌, not, nat_lt, nat_eq, Bool, List, [], ◌∷◌}
use Rattle.std.specs.Prelude.{◌++◌, length, take, codes, if◌then◌else◌}
use Rattle.std.specs.List.{list_all, slice_split, starts_with, ends_with}
use Rattle.std.specs.Str.{bytes_eq}
use Rattle.desk_tree_gather.specs.declared.files.SourceFile.{SourceFile}

-- a part of a path: not empty, and no step to the folder itself or out of it
abbrev pub is_part : List ℕ → Bool
is_part part = not (bytes_eq part []) && not (bytes_eq part (codes "."))
    && not (bytes_eq part (codes ".."))

-- a path from the tree's root: parts between slashes, no byte below 32, and no blank at the end
abbrev pub is_path : List ℕ → Bool
is_path path =
    list_all is_part (slice_split (λ b. b == 47) path)
    && (list_all (λ b. not (nat_lt b 32)) path && not (ends_with nat_eq path (codes " ")))

-- the name is what follows the last slash
abbrev pub name_from : List ℕ → List ℕ → List ℕ
name_from name [] = name
name_from name (b ∷ bs) = if b == 47 then name_from bs bs else name_from name bs

-- the name of a file: what follows the last slash of its path, or all of it
abbrev pub name_of : List ℕ → List ℕ
name_of path = name_from path path

-- the file is named REUSE.toml, in whichever folder
abbrev pub is_toml : SourceFile → Bool
is_toml file = bytes_eq (name_of file.path) (codes "REUSE.toml")

-- the folder of a REUSE.toml, with a slash at its end; nothing for the root
abbrev pub folder_of : List ℕ → List ℕ
folder_of path = take (length path - 10) path

-- the word alone, or followed by a full stop and anything
abbrev pub is_named : List ℕ → List ℕ → Bool
is_named name word = bytes_eq name word || starts_with nat_eq name (word ++ codes ".")

-- the usual names of a project's licence text, each with any ending or none
abbrev pub is_licence_name : List ℕ → Bool
is_licence_name name = is_named name (codes "LICENSE")
    || (is_named name (codes "LICENCE") || is_named name (codes "COPYING"))

-- a file that is left out, because of its name or its place at the root
abbrev pub is_left_out : List ℕ → List ℕ → Bool
is_left_out path name =
    starts_with nat_eq path (codes "LICENSES/")
    || (starts_with nat_eq path (codes ".git/") || (starts_with nat_eq path (codes ".reuse/")
    || (bytes_eq name (codes "REUSE.toml")
    || (ends_with nat_eq name (codes ".license") || is_licence_name name))))

-- the covered files: those that aren't left out, unless they are empty
abbrev pub is_covered : SourceFile → Bool
is_covered file = not (bytes_eq file.bytes []) && not (is_left_out file.path (name_of file.path))
