use Rattle.std.proofs.Common.{◌≡◌, ◌++◌, drop, map}
use Rattle.desk_tree_infos.specs.Sharing.{outline_in}
use Rattle.desk_tree_lint.specs.Lists.{bare_in}
use Rattle.desk_tree_lint.proofs.lists.bare_in.Given as goal

abbrev pub invariant-loop-file : goal.invariant-loop-file
invariant-loop-file l = l.paths ++ bare_in (map outline_in (drop l.file-index l.outlines))
    ≡ bare_in (map outline_in l.outlines)
