use Rattle.std.proofs.Common.{◌≡◌, ◌++◌, take}
use Rattle.desk_tree_infos.proofs.infos.add_listed.Given as goal

abbrev pub invariant-loop-place : goal.invariant-loop-place
invariant-loop-place l = l.list.items ≡ l.initial.list.items ++ take l.place l.more
