use Rattle.std.proofs.Common.{◌+◌, ◌∙◌, [], ◌∷◌, ap, sym, drop}
use Rattle.std.proofs.lemmas.List.{drop_all}
use Rattle.desk_model.specs.declared.row.ChoiceRow.{ChoiceRow}
use Rattle.desk_sorted.specs.Blocks.{rows_in}
use Rattle.desk_memory_rows.specs.Holders.{letting_go}
use Rattle.desk_memory_rows.proofs.Holding.{let_go_both, let_go_none, let_go_one}
use Rattle.desk_memory_rows.proofs.Lists.{row_at}
use Rattle.desk_memory_rows.proofs.holders.drop_choices.Goals as goal

pub loop-row-preserved : goal.loop-row-preserved
loop-row-preserved c =
    let place = c.args.place in
    let rest = drop (c.loop-row.row-index + 1) c.args.rows.now in
    let row : ChoiceRow = c.row-item.result in
    let all = rows_in c.loop-row.holders.blocks.items in
    ap (letting_go place rest) (c.drop_choice.ensures ∙ let_go_one place row all)
    ∙ (let_go_both place (row ∷ []) rest all
    ∙ (ap (λ rows. letting_go place rows all)
    (row_at c.args.rows.now c.loop-row.row-index row c.loop-row-test.true c.row-item.is)
    ∙ c.loop-row.invariant))

pub returns : goal.returns
returns c =
    let all = rows_in c.loop-row.holders.blocks.items in
    sym (ap (λ rows. letting_go c.args.place rows all)
    (drop_all c.loop-row.row-index c.args.rows.now c.loop-row-test.false)
    ∙ let_go_none c.args.place all) ∙ c.loop-row.invariant
