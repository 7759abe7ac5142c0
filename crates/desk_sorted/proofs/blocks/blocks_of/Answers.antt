use Rattle.std.proofs.Common.{◌≡◌, ◌+◌, ◌-◌, ◌<◌, suc, length, drop, sym, subst, ap, ◌∙◌, arith, List}
use Rattle.std.specs.Prelude.{Vec}
use Rattle.std.specs.List.{list_any}
use Rattle.std.specs.Ordering.{is_le}
use Rattle.std.specs.declared.alloc.Global.{Global}
use Rattle.std.proofs.lemmas.List.{take_rest, length-drop}
use Rattle.desk_model.specs.Keys.{below_by}
use Rattle.desk_model.specs.Lists.{ascends}
use Rattle.desk_sorted.specs.Blocks.{are_filled, rows_in}
use Rattle.desk_sorted.proofs.Blocking.{ascends_drop, filled_drop}
use Rattle.desk_sorted.proofs.Searching.{drop_further}
use Rattle.desk_sorted.proofs.blocks.blocks_of.Goals as goal

pub last_block-count-requires-clause-ascending : goal.last_block-count-requires-clause-ascending
last_block-count-requires-clause-ascending g c =
    let blocks = c.args.blocks.now in
    let start = c.first_block-start.result in
    let below = below_by g.R.Keyed.order in
    ap (λ (bs : List (Vec g.row.R.Denot Global)). ascends below (rows_in bs))
    (take_rest blocks start) ∙ ascends_drop below start blocks c.requires.ascending

pub last_block-count-requires-clause-filled : goal.last_block-count-requires-clause-filled
last_block-count-requires-clause-filled g c =
    let blocks = c.args.blocks.now in
    let start = c.first_block-start.result in
    ap (λ (bs : List (Vec g.row.R.Denot Global)). are_filled bs) (take_rest blocks start)
    ∙ filled_drop start blocks c.requires.filled

pub returns-then-count-rest : goal.returns-then-count-rest
returns-then-count-rest g c =
    let blocks = c.args.blocks.now in
    let start = c.first_block-start.result in
    let count = c.last_block-count.result in
    let rest = take_rest blocks start in
    let far : start + suc count ≡ start + count + 1 = omega arith in
    let shorter : count < length blocks - start =
    subst (λ n. count < n) (ap length rest ∙ length-drop start blocks) c.if-count-rest.true in
    record {
      ordered = omega arith;
      within = omega (arith, shorter);
      before = c.first_block-start.ensures.front;
      behind =
          ap (λ (bs : List (Vec g.row.R.Denot Global)). list_any
          (λ row. is_le (g.K.Sought.side c.args.key.now row)) (rows_in bs))
          (sym (drop_further start (suc count) (start + count + 1) blocks far)
          ∙ ap (drop (suc count)) (sym rest))
          ∙ c.last_block-count.ensures.back;
    }
