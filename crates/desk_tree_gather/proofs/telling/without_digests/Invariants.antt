use Rattle.std.proofs.Common.{◌≡◌, map}
use Rattle.desk_tree_gather.specs.declared.telling.Digested.{Digested}
use Rattle.desk_tree_gather.proofs.telling.without_digests.Given as goal

abbrev pub invariant-loop-file : goal.invariant-loop-file
invariant-loop-file l = l.covered.items ≡ map (λ (f : Digested). f.info) l.yielded
