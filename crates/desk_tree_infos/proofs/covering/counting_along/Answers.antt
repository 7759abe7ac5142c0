use Rattle.std.proofs.Common.{◌∙◌, ◌++◌, ◌+◌, drop, ap, map, sym}
use Rattle.std.specs.Prelude.{option_to_list}
use Rattle.std.proofs.lemmas.List.{append-nil, drop_all}
use Rattle.desk_tree_infos.specs.Sharing.{annotations_at}
use Rattle.desk_tree_infos.specs.Ways.{lists_of}
use Rattle.desk_tree_infos.proofs.WayLemmas.{along, along-counts, along-more}
use Rattle.desk_tree_infos.proofs.covering.counting_along.Goals as goal

pub loop-numbers-preserved : goal.loop-numbers-preserved
loop-numbers-preserved c = record {
  utf8 = c.behind_slash-rest.ensures.utf8;
  so_far = λ r right.
      let all = c.args.all.now in
      let others = map (annotations_at all)
      (lists_of (drop (c.loop-numbers.numbers-index + 1) c.args.lists.now)) in
      ap (λ l. annotations_at all l ++ along r others c.behind_slash-rest.result.now)
      c.in_ok-add_some.ensures
      ∙ ap (λ rest. annotations_at all
      (c.loop-numbers.list.items ++ option_to_list c.in_ok-last_covering.field-0) ++ along r others rest)
      c.behind_slash-rest.ensures.value
      ∙ along-more r all c.loop-numbers.list.items c.in_ok-last_covering.field-0 c.args.lists.now
      c.loop-numbers.numbers-index _ c.loop-numbers.rest.now c.loop-numbers-test.true
      (c.in_ok-last_covering.ensures r right)
      ∙ c.loop-numbers.invariant.so_far r right;
}

pub returns : goal.returns
returns c = λ r right tomls is.
    let all = c.args.all.now in
    let found = annotations_at all c.loop-numbers.list.items in
    sym (append-nil found)
    ∙ sym (ap (λ ls. found ++ along r (map (annotations_at all) (lists_of ls))
    c.loop-numbers.rest.now) (drop_all c.loop-numbers.numbers-index c.args.lists.now
    c.loop-numbers-test.false))
    ∙ c.loop-numbers.invariant.so_far r right
    ∙ ap (λ ls. along r ls c.args.path.now) is
    ∙ along-counts r tomls c.args.path.now
