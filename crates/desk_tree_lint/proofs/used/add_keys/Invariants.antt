use Rattle.std.proofs.Common.{◌≡◌, ◌++◌, take}
use Rattle.desk_tree_lint.specs.Used.{keys_in}
use Rattle.desk_tree_lint.proofs.used.add_keys.Given as goal

abbrev pub invariant-loop-term : goal.invariant-loop-term
invariant-loop-term l = l.keys ≡ l.initial.keys ++ keys_in (take l.term-index l.terms)
