use Rattle.std.proofs.Common.{◌≡◌, ◌++◌, drop, filter}
use Rattle.desk_tree_gather.specs.Paths.{is_toml}
use Rattle.desk_tree_gather.specs.Shown.{files_of}
use Rattle.desk_tree_gather.proofs.surveying.toml_files.Given as goal

abbrev pub invariant-loop-file : goal.invariant-loop-file
invariant-loop-file l = files_of l.tomls.items
    ++ filter is_toml (files_of (drop l.file-index l.files)) ≡ filter is_toml (files_of l.files)
