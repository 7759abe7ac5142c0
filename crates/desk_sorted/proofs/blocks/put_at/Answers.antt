use Rattle.std.proofs.Common.{◌∙◌, ◌++◌, ◌<◌, suc, ap, arith, drop, length, sym, take}
use Rattle.std.specs.Prelude.{Vec}
use Rattle.std.specs.declared.alloc.Global.{Global}
use Rattle.desk_model.specs.Keys.{below_by}
use Rattle.desk_model.specs.Lists.{ascends, put}
use Rattle.desk_sorted.specs.Blocks.{has_rows, rows_in}
use Rattle.desk_sorted.proofs.Blocking.{ascends_drop}
use Rattle.desk_sorted.proofs.Changing.{filled_set, has_put, put_between, rows_at, rows_set}
use Rattle.desk_sorted.proofs.Walking.{block_ascends}
use Rattle.desk_sorted.proofs.blocks.put_at.Goals as goal

pub put_row-requires-clause-ascending : goal.put_row-requires-clause-ascending
put_row-requires-clause-ascending g c =
    let below = below_by g.R.Keyed.order in
    let blocks = c.args.blocks.now.items in
    let within : c.args.at < length blocks =
    omega (arith, c.args.blocks.now.ok.0, c.requires.within) in
    ap (λ (b : Vec g.row.R.Denot Global). ascends below b.items) c.index_mut.ensures.value
    ∙ block_ascends below blocks c.args.at c.index_mut.result.now within
    (ascends_drop below c.args.at blocks c.requires.ascending)

pub returns-clause-rows : goal.returns-clause-rows
returns-clause-rows g c =
    let below = below_by g.R.Keyed.order in
    let blocks = c.args.blocks.now.items in
    let at = c.args.at in
    let row = c.args.row in
    let front = rows_in (take at blocks) in
    let back = rows_in (drop (suc at) blocks) in
    let within : at < length blocks = omega (arith, c.args.blocks.now.ok.0, c.requires.within) in
    rows_set blocks at c.put_row.new.rows within
    ∙ (ap (λ xs. front ++ (xs ++ back))
    (c.put_row.ensures.items ∙ ap (λ (b : Vec g.row.R.Denot Global). put below row b.items)
    c.index_mut.ensures.value)
    ∙ (sym (put_between below row front _ back c.requires.place)
    ∙ ap (put below row) (sym (rows_at blocks at c.index_mut.result.now within))))

pub returns-clause-filled : goal.returns-clause-filled
returns-clause-filled g c =
    filled_set c.args.blocks.now.items c.args.at c.put_row.new.rows
    (ap has_rows c.put_row.ensures.items ∙ has_put (below_by g.R.Keyed.order) c.args.row _)
    c.requires.filled
