-- The REUSE.toml files of a tree: the annotations of each folder.
use Rattle.std.specs.Prelude.{ℕ, List, [], ◌∷◌, map, if◌then◌else◌}
use Rattle.std.specs.Str.{bytes_eq}
use Rattle.desk_tree_annotations.specs.declared.annotation.Annotation.{Annotation}
use Rattle.desk_tree_infos.specs.declared.folders.Toml.{Toml}

-- a REUSE.toml: its folder and its annotations
pub record TomlText : Type 0 where
  pub folder : List ℕ
  pub annotations : List Annotation

-- the annotations of a folder
abbrev pub annotations_in : List TomlText → List ℕ → List Annotation
annotations_in [] folder = []
annotations_in (t ∷ ts) folder = if bytes_eq t.folder folder then t.annotations
    else annotations_in ts folder

-- a REUSE.toml, apart from where its folder is in memory
abbrev pub toml_in : Toml → TomlText
toml_in t = record { folder = t.folder.now; annotations = t.annotations.list }

-- the same for several
abbrev pub tomls_in : List Toml → List TomlText
tomls_in ts = map toml_in ts
