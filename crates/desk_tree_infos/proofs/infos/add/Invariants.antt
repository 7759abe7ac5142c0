use Rattle.std.proofs.Common.{◌≡◌, ◌++◌, take}
use Rattle.desk_tree_infos.proofs.infos.add.Given as goal

abbrev pub invariant-loop-text : goal.invariant-loop-text
invariant-loop-text l = l.list.items ≡ l.initial.list.items ++ take l.text-index l.more
