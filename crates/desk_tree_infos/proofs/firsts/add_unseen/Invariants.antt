use Rattle.std.proofs.Common.{take}
use Rattle.desk_tree_infos.specs.Firsts.{AddsUnseen}
use Rattle.desk_tree_infos.proofs.firsts.add_unseen.Given as goal

abbrev pub invariant-loop-text : goal.invariant-loop-text
invariant-loop-text l = AddsUnseen (take l.text-index l.texts) l.initial.seen l.seen
    l.initial.list.items l.list.items
