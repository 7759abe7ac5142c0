-- The annotations that are kept by folder.
use Rattle.std.specs.Prelude.{◌≡◌, ℕ, List, [], Option, Some, None, Vec}
use Rattle.std.specs.Ordering.{nat_cmp}
use Rattle.std.specs.Cmp.Lexicographic.{slice_cmp}
use Rattle.std.specs.BTreeMap.{BTreeMap, get_by}
use Rattle.std.specs.declared.alloc.Global.{Global}
use Rattle.desk_tree_infos.specs.declared.folders.Folders.{Folders}
use Rattle.desk_tree_infos.specs.Sharing.{annotations_at}
use Rattle.desk_tree_infos.specs.Tomls.{TomlText, annotations_in}

-- from a folder, with a slash at its end or empty for the root, to numbers of annotations
abbrev pub Numbers : Type 0
Numbers = BTreeMap (Vec ℕ Global) (Vec ℕ Global)

-- the numbers of a folder, none if it has no entry
abbrev pub list_or_none : Option (Vec ℕ Global) → List ℕ
list_or_none None = []
list_or_none (Some numbers) = numbers.items

-- the numbers that a map has for a folder
abbrev pub numbers_for : Numbers → List ℕ → List ℕ
numbers_for m folder = list_or_none
    (get_by (λ (k : Vec ℕ Global). slice_cmp nat_cmp folder k.items) m)

-- the numbers of the annotations of a folder
abbrev pub kept_for : Folders → List ℕ → List ℕ
kept_for folders folder = numbers_for folders.numbers folder

-- the annotations of these files are kept
abbrev pub Holds : List TomlText → Folders → Type 0
Holds tomls folders = (folder : List ℕ)
    → annotations_at folders.all.items (kept_for folders folder) ≡ annotations_in tomls folder
