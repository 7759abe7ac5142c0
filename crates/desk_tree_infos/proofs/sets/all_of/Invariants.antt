use Rattle.std.proofs.Common.{◌≡◌, take}
use Rattle.desk_tree_infos.proofs.sets.all_of.Given as goal

abbrev pub invariant-loop-place : goal.invariant-loop-place
invariant-loop-place l = l.all.items ≡ take l.place l.list
