use Rattle.std.proofs.Common.{◌≡◌, ◌∙◌, length, suc, ap, drop, take}
use Rattle.desk_model.specs.Keys.{below_by}
use Rattle.desk_model.specs.Lists.{ascends, put}
use Rattle.desk_model.proofs.Orders.{ascends-put, order_of}
use Rattle.desk_sorted.specs.Blocks.{is_between, rows_in}
use Rattle.desk_sorted.proofs.Changing.{alike_drop, alike_take}
use Rattle.desk_sorted.proofs.Counting.{counted_fits, put_counted}
use Rattle.desk_sorted.proofs.blocks.Blocks.put.Goals as goal

pub put_at-requires-clause-place : goal.put_at-requires-clause-place
put_at-requires-clause-place g c =
    let below = below_by g.R.Keyed.order in
    let at = c.in_ok-at.at in
    let kept = c.reserve_at.new.blocks.items in
    let blocks = c.open.new.self.blocks.items in
    ap (λ xs. is_between below xs (rows_in (drop (suc at) kept)) c.args.row)
    (alike_take at kept blocks c.in_ok-reserve_at.ensures.items)
    ∙ (ap (λ xs. is_between below (rows_in (take at blocks)) xs c.args.row)
    (alike_drop (suc at) kept blocks c.in_ok-reserve_at.ensures.items)
    ∙ c.in_ok-at.ensures.place)

pub returns-clause-ok : goal.returns-clause-ok
returns-clause-ok g c =
    c.put_at.ensures.rows
    ∙ ap (put (below_by g.R.Keyed.order) c.args.row)
    (c.in_ok-reserve_at.ensures.rows ∙ (c.in_ok-at.ensures.rows ∙ c.in_ok-start.ensures.rows))

pub invariant_of-self-2 : goal.invariant_of-self-2
invariant_of-self-2 g c =
    let below = below_by g.R.Keyed.order in
    let rows = c.put_at.ensures.rows
    ∙ ap (put below c.args.row) (c.in_ok-reserve_at.ensures.rows
    ∙ (c.in_ok-at.ensures.rows ∙ c.in_ok-start.ensures.rows)) in
    let count : c.in-Some.count ≡ length (rows_in c.put_at.new.blocks.items) =
    put_counted below c.args.row (rows_in c.args.self.now.blocks.items)
    (rows_in c.put_at.new.blocks.items) c.args.self.now.count c.in-Some.count rows
    c.args.self.now.counted c.in-Some.ensures.1 in
    record {
      ascending = ap (ascends below) rows
          ∙ ascends-put below (order_of g.met.R.Keyed.total) c.args.row
          (rows_in c.args.self.now.blocks.items) c.args.self.now.ascending;
      filled = c.put_at.ensures.filled;
      counted = count;
      fits = counted_fits (rows_in c.put_at.new.blocks.items) _ c.in-Some.count count
          c.in-Some.ensures.1 c.in-Some.ensures.0;
    }
