use Rattle.std.proofs.Common.{◌≡◌, ◌++◌, ℕ, List, [], vec_len}
use Rattle.desk_tree_annotations.specs.declared.annotation.Annotation.{Annotation}
use Rattle.desk_tree_infos.specs.Folders.{numbers_for}
use Rattle.desk_tree_infos.specs.Sharing.{annotations_at}
use Rattle.desk_tree_infos.specs.Tomls.{tomls_in}
use Rattle.desk_tree_infos.proofs.FolderLemmas.{annotations_or}
use Rattle.desk_tree_infos.proofs.folders.by_folder.Given as goal

-- the files that are left, before those that are kept, are all; this stays true whatever
-- annotations come after them
abbrev pub invariant-loop-toml : goal.invariant-loop-toml
invariant-loop-toml l = (more : List Annotation) (folder : List ℕ)
    → annotations_or (tomls_in l.tomls.items) folder
    (annotations_at (l.all.items ++ more) (numbers_for l.numbers folder))
    ≡ annotations_or (tomls_in l.fn.tomls.items) folder []

abbrev pub decreases-loop-toml : goal.decreases-loop-toml
decreases-loop-toml l = vec_len l.tomls
