use Rattle.std.proofs.Common.{take, []}
use Rattle.desk_tree_infos.specs.Firsts.{AddsUnseen, Knows}
use Rattle.desk_tree_infos.specs.Sharing.{texts_at}
use Rattle.desk_tree_infos.proofs.firsts.unseen_texts.Given as goal

abbrev pub invariant-loop-number : goal.invariant-loop-number
invariant-loop-number l = record {
  knows : Knows l.all l.of l.seen;
  adds : AddsUnseen (texts_at l.all l.of (take l.number-index l.number-items)) l.initial.seen.texts
      l.seen.texts [] l.list.items;
}
