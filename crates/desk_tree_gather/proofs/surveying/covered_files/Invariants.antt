use Rattle.std.proofs.Common.{◌≡◌, ◌++◌, drop, filter}
use Rattle.desk_tree_gather.specs.Paths.{is_covered}
use Rattle.desk_tree_gather.specs.Shown.{files_of}
use Rattle.desk_tree_gather.proofs.surveying.covered_files.Given as goal

abbrev pub invariant-loop-file : goal.invariant-loop-file
invariant-loop-file l = files_of l.covered.items
    ++ filter is_covered (files_of (drop l.file-index l.files))
    ≡ filter is_covered (files_of l.files)
