use Rattle.std.proofs.Common.{◌≡◌, ◌++◌}
use Rattle.desk_tree_gather.specs.Shown.{files_of, entries_of, tree_in}
use Rattle.desk_tree_gather.proofs.files.files_of.Given as goal

abbrev pub invariant-loop-path : goal.invariant-loop-path
invariant-loop-path l = files_of l.files.items ++ entries_of l.path-iterator ≡ tree_in l.tree
