use Rattle.std.proofs.Common.{◌≡◌, ◌++◌, drop}
use Rattle.desk_tree_gather.specs.Blanks.{blanks_from}
use Rattle.desk_tree_gather.proofs.blanks.add_each.Given as goal

-- what was added, and what is still to come, is all
abbrev pub invariant-loop-index : goal.invariant-loop-index
invariant-loop-index l = l.blanks ++ blanks_from l.path l.index (drop l.index l.annotations)
    ≡ l.initial.blanks ++ blanks_from l.path 0 l.annotations
