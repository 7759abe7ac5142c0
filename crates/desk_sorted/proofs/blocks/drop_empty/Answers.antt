use Rattle.std.proofs.Common.{List, length, rules, ap, ◌∙◌}
use Rattle.std.specs.Prelude.{not, ◌==◌, Vec}
use Rattle.std.specs.declared.alloc.Global.{Global}
use Rattle.std.proofs.lemmas.Fn.{filter_same}
use Rattle.desk_sorted.specs.Blocks.{are_filled, rows_in}
use Rattle.desk_sorted.proofs.Changing.{filled_kept, rows_kept}
use Rattle.desk_sorted.proofs.blocks.drop_empty.Goals as goal

pub returns-clause-rows : goal.returns-clause-rows
returns-clause-rows g c =
    ap (λ (bs : List (Vec g.row.R.Denot Global)). rows_in bs)
    (filter_same _ (λ (b : Vec g.row.R.Denot Global). not (length b.items == 0)) _
    (λ x b f' k. search rules) _ _ c.retain.ensures.filtered)
    ∙ rows_kept c.args.blocks.now.items

pub returns-clause-filled : goal.returns-clause-filled
returns-clause-filled g c =
    ap (λ (bs : List (Vec g.row.R.Denot Global)). are_filled bs)
    (filter_same _ (λ (b : Vec g.row.R.Denot Global). not (length b.items == 0)) _
    (λ x b f' k. search rules) _ _ c.retain.ensures.filtered)
    ∙ filled_kept c.args.blocks.now.items
