use Rattle.std.proofs.Common.{◌≡◌, take}
use Rattle.desk_tree_infos.proofs.sets.copy_texts.Given as goal

abbrev pub invariant-loop-text : goal.invariant-loop-text
invariant-loop-text l = l.list ≡ take l.text-index l.texts
