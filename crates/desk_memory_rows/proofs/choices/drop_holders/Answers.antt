use Rattle.std.proofs.Common.{◌+◌, ◌++◌, ◌∙◌, List, ap, sym, drop}
use Rattle.std.proofs.lemmas.List.{drop_all}
use Rattle.std.specs.Prelude.{filter, Vec}
use Rattle.std.specs.declared.alloc.Global.{Global}
use Rattle.desk_model.specs.Keys.{below_by, choice_order, is_choice_in}
use Rattle.desk_model.specs.Lists.{ascends}
use Rattle.desk_model.specs.declared.row.ChoiceRow.{ChoiceRow}
use Rattle.desk_sorted.specs.Blocks.{rows_in}
use Rattle.desk_sorted.proofs.Walking.{block_ascends, filter_split, rest_ascends}
use Rattle.desk_memory_rows.specs.Holders.{leaving, letting_go}
use Rattle.desk_memory_rows.proofs.Holding.{let_go_both, let_go_none}
use Rattle.desk_memory_rows.proofs.choices.drop_holders.Goals as goal

pub run_in-requires : goal.run_in-requires
run_in-requires c =
    ap (ascends (below_by choice_order))
    (c.as_slice.ensures.value ∙ ap (λ (b : Vec ChoiceRow Global). b.items) c.block-item.is)
    ∙ block_ascends (below_by choice_order) c.among-block-items.result.now c.loop-block.block-index
    c.block-item.result c.loop-block-test.true c.loop-block.invariant.ascending

pub loop-block-preserved : goal.loop-block-preserved
loop-block-preserved c =
    let at = is_choice_in c.args.release.now in
    let bs = c.among-block-items.result.now in
    let i = c.loop-block.block-index in
    let rest = filter at (rows_in (drop (i + 1) bs)) in
    let place = c.in-Some.place in
    let all = rows_in c.loop-block.holders.blocks.items in
    let here = c.run_in.ensures ∙ (ap (λ name. filter (is_choice_in name) c.as_slice.result.now)
    c.as_str.ensures ∙ ap (filter at)
    (c.as_slice.ensures.value ∙ ap (λ (b : Vec ChoiceRow Global). b.items) c.block-item.is)) in
    record {
      left =
          ap (letting_go place rest) c.drop_choices.ensures
          ∙ (let_go_both place c.run_in.result.now rest all
          ∙ (ap (λ rows. letting_go place rows all)
          (ap (λ rows. rows ++ rest) here
          ∙ sym (filter_split at bs i c.block-item.result c.loop-block-test.true))
          ∙ c.loop-block.invariant.left));
      ascending = rest_ascends (below_by choice_order) bs i c.block-item.result
          c.loop-block-test.true c.loop-block.invariant.ascending;
    }

pub returns : goal.returns
returns c =
    let at = is_choice_in c.args.release.now in
    let place = c.in-Some.place in
    let all = rows_in c.loop-block.holders.blocks.items in
    sym (ap (λ (bs : List (Vec ChoiceRow Global)). letting_go place (filter at (rows_in bs)) all)
    (drop_all c.loop-block.block-index c.among-block-items.result.now c.loop-block-test.false)
    ∙ let_go_none place all)
    ∙ (c.loop-block.invariant.left
    ∙ ap (λ o. leaving o (filter at (rows_in c.args.rows.now.blocks.items))
    (rows_in c.args.holders.now.blocks.items)) (sym c.in-Some.is))
