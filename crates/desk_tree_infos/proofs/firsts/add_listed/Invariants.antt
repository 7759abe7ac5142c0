use Rattle.std.proofs.Common.{take}
use Rattle.desk_tree_infos.specs.Firsts.{AddsUnseen}
use Rattle.desk_tree_infos.proofs.firsts.add_listed.Given as goal

abbrev pub invariant-loop-place : goal.invariant-loop-place
invariant-loop-place l = AddsUnseen (take l.place l.texts) l.initial.seen l.seen
    l.initial.list.items l.list.items
