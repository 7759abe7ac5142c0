use Rattle.std.proofs.Common.{◌≡◌, ◌++◌, drop}
use Rattle.std.specs.Cmp.Lexicographic.{slice_cmp}
use Rattle.std.specs.List.Sorted.{IsStrictlySortedBy}
use Rattle.std.specs.Ordering.{nat_cmp}
use Rattle.desk_base.specs.Borrowed.{texts}
use Rattle.desk_tree_lint.specs.Lists.{unused}
use Rattle.desk_tree_lint.specs.Shown.{texts_in}
use Rattle.desk_tree_lint.proofs.lists.unused_paths.Given as goal

abbrev pub invariant-loop-text : goal.invariant-loop-text
invariant-loop-text l = IsStrictlySortedBy (slice_cmp nat_cmp) (texts l.fn.used)
    → l.paths ++ unused (texts l.fn.used) (texts_in (drop l.text-index l.listed))
    ≡ unused (texts l.fn.used) (texts_in l.listed)
