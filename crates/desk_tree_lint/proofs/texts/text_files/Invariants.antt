use Rattle.std.proofs.Common.{◌≡◌, ◌++◌}
use Rattle.desk_tree_gather.specs.Shown.{entries_of, tree_in}
use Rattle.desk_tree_lint.specs.Texts.{text_files}
use Rattle.desk_tree_lint.specs.Shown.{texts_in}
use Rattle.desk_tree_lint.proofs.texts.text_files.Given as goal

abbrev pub invariant-loop-path : goal.invariant-loop-path
invariant-loop-path l = texts_in l.texts.items ++ text_files (entries_of l.path-iterator)
    ≡ text_files (tree_in l.tree)
