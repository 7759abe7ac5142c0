use Rattle.std.proofs.Common.{◌∙◌, ◌++◌, [], subst}
use Rattle.std.proofs.lemmas.List.{take_all}
use Rattle.desk_tree_infos.specs.Firsts.{AddsUnseen}
use Rattle.desk_tree_infos.specs.Sharing.{texts_at}
use Rattle.desk_tree_infos.proofs.FirstsLemmas.{adds_both, still_seen, unseen_set}
use Rattle.desk_tree_infos.proofs.SharingLemmas.{texts_at-take}
use Rattle.desk_tree_infos.proofs.firsts.unseen_texts.Goals as goal
use Rattle.desk_tree_infos.proofs.firsts.unseen_texts.Goals.{After-shared_set}

pub loop-number-preserved : goal.loop-number-preserved
loop-number-preserved c =
    let all = c.args.all.now in
    let of = c.args.of in
    let numbers = c.as_slice-number-items.result.now in
    let i = c.loop-number.number-index in
    record {
      knows = c.in_ok-add_annotation.ensures.knows;
      adds = subst (λ ts. AddsUnseen ts c.args.seen.now.texts c.add_annotation.new.seen.texts []
          c.add_annotation.new.list.items)
          (texts_at-take all of numbers i _ c.loop-number-test.true)
          (adds_both _ _ c.args.seen.now.texts c.loop-number.seen.texts
          c.add_annotation.new.seen.texts [] c.loop-number.list.items
          c.add_annotation.new.list.items
          c.loop-number.invariant.adds c.in_ok-add_annotation.ensures.adds);
    }

whole : (c : After-shared_set)
    → AddsUnseen (texts_at c.args.all.now c.args.of c.args.sources.now.numbers.items
    ++ c.args.sources.now.own.items) c.args.seen.now.texts c.add_unseen.new.seen []
    c.add_unseen.new.list.items
whole c =
    let all = c.args.all.now in
    let of = c.args.of in
    adds_both (texts_at all of c.args.sources.now.numbers.items) c.args.sources.now.own.items
    c.args.seen.now.texts c.loop-number.seen.texts c.add_unseen.new.seen [] c.loop-number.list.items
    c.add_unseen.new.list.items
    (subst (λ ns. AddsUnseen (texts_at all of ns) c.args.seen.now.texts c.loop-number.seen.texts []
    c.loop-number.list.items)
    (take_all c.loop-number.number-index c.as_slice-number-items.result.now c.loop-number-test.false
    ∙ c.as_slice-number-items.ensures.value) c.loop-number.invariant.adds)
    (subst (λ ts. AddsUnseen ts c.loop-number.seen.texts c.add_unseen.new.seen
    c.loop-number.list.items c.add_unseen.new.list.items) c.as_slice.ensures.value
    c.in_ok-add_unseen.ensures)

pub returns-clause-knows : goal.returns-clause-knows
returns-clause-knows c = λ number has t among.
    still_seen c.as_slice.result.now c.loop-number.seen.texts c.add_unseen.new.seen
    c.loop-number.list.items c.add_unseen.new.list.items c.in_ok-add_unseen.ensures t
    (c.loop-number.invariant.knows number has t among)

pub returns-clause-seen : goal.returns-clause-seen
returns-clause-seen c = (whole c).seen

pub returns-clause-unseen : goal.returns-clause-unseen
returns-clause-unseen c =
    c.shared_set.ensures
    ∙ unseen_set (texts_at c.args.all.now c.args.of c.args.sources.now.numbers.items
    ++ c.args.sources.now.own.items) c.args.seen.now.texts c.add_unseen.new.seen
    c.add_unseen.new.list.items (whole c)
