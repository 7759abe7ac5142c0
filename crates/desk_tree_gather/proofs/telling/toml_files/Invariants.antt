use Rattle.std.proofs.Common.{◌≡◌, ◌++◌, filter}
use Rattle.desk_tree_gather.specs.Paths.{is_toml}
use Rattle.desk_tree_gather.specs.Shown.{files_of, left_in}
use Rattle.desk_tree_gather.proofs.OwnedLemmas.{files_in}
use Rattle.desk_tree_gather.proofs.telling.toml_files.Given as goal

-- those so far, and those of the rest of the map, are all of it
abbrev pub invariant-loop-path : goal.invariant-loop-path
invariant-loop-path l = files_of l.tomls.items ++ filter is_toml (files_in l.path-iterator)
    ≡ filter is_toml (left_in l.tree)
