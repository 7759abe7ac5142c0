-- Licences of a REUSE.toml that no document can hold: they are kept as they are written there, and
-- have a blank at an end.
use Rattle.std.specs.Prelude.{ℕ, ◌+◌, ◌||◌, nat_eq, Bool, List, [], ◌∷◌, ◌++◌, codes, filter, Ok, Err}
use Rattle.std.specs.Prelude.{if◌then◌else◌}
use Rattle.std.specs.List.{flat_map, list_any, starts_with, ends_with}
use Rattle.std.specs.Str.{is_utf8}
use Rattle.desk_tree_annotations.specs.declared.annotation.Annotation.{Annotation}
use Rattle.desk_tree_annotations.specs.Reading.{Read, annotations_of}
use Rattle.desk_tree_annotations.specs.Right.{Reading}
use Rattle.desk_tree_gather.specs.declared.files.SourceFile.{SourceFile}
use Rattle.desk_tree_gather.specs.Paths.{is_toml}
use Rattle.desk_tree_gather.specs.declared.blanks.Blank.{Blank}

-- a space or a tab at the front or the end
abbrev pub has_blank_end : List ℕ → Bool
has_blank_end text =
    starts_with nat_eq text (codes " ")
    || (starts_with nat_eq text (codes "\t")
    || (ends_with nat_eq text (codes " ") || ends_with nat_eq text (codes "\t")))

-- one of the annotation's licences begins or ends with a blank
abbrev pub has_blank : Annotation → Bool
has_blank annotation = list_any has_blank_end annotation.licences

-- an annotation with such a licence, by its path and its index
abbrev pub blank_at : List ℕ → ℕ → Annotation → List Blank
blank_at path index annotation = if has_blank annotation
    then record { path = path; index = index } ∷ [] else []

-- those of annotations that follow one another, from this index on
abbrev pub blanks_from : List ℕ → ℕ → List Annotation → List Blank
blanks_from path index [] = []
blanks_from path index (a ∷ more) = blank_at path index a ++ blanks_from path (index + 1) more

-- for a REUSE.toml of which all annotations can be read
abbrev pub blanks_read : List ℕ → Read (List Annotation) → List Blank
blanks_read path (Ok annotations) = blanks_from path 0 annotations
blanks_read path (Err fault) = []

-- for one REUSE.toml; one that isn't UTF-8 has none
abbrev pub blanks_of : Reading → SourceFile → List Blank
blanks_of r file = if is_utf8 file.bytes then blanks_read file.path (annotations_of r file.bytes)
    else []

-- for all REUSE.toml files of a tree, in the tree's order
abbrev pub blanks_in : Reading → List SourceFile → List Blank
blanks_in r tree = flat_map (blanks_of r) (filter is_toml tree)
