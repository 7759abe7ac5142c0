use Rattle.std.proofs.Common.{◌≡◌, take}
use Rattle.desk_base.specs.Borrowed.{texts_in}
use Rattle.desk_tree_lint.proofs.ordering.borrow_keys.Given as goal

abbrev pub invariant-loop-place : goal.invariant-loop-place
invariant-loop-place l = texts_in l.borrowed ≡ take l.place l.keys
