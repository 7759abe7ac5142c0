use Rattle.std.proofs.Common.{◌≡◌, ◌++◌, drop}
use Rattle.desk_base.specs.Borrowed.{texts}
use Rattle.desk_tree_lint.specs.Lists.{missing}
use Rattle.desk_tree_lint.specs.Shown.{texts_in}
use Rattle.desk_tree_lint.proofs.lists.missing.Given as goal

abbrev pub invariant-loop-key : goal.invariant-loop-key
invariant-loop-key l = l.lacking ++ missing (texts (drop l.key-index l.used)) (texts_in l.fn.listed)
    ≡ missing (texts l.used) (texts_in l.fn.listed)
