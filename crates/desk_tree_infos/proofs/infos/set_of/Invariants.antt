use Rattle.std.proofs.Common.{◌≡◌, take}
use Rattle.desk_tree_infos.specs.Sharing.{texts_at}
use Rattle.desk_tree_infos.proofs.infos.set_of.Given as goal

abbrev pub invariant-loop-number : goal.invariant-loop-number
invariant-loop-number l = l.list.items ≡ texts_at l.all l.of (take l.number-index l.number-items)
