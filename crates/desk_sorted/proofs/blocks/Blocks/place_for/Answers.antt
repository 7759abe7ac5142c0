use Rattle.std.proofs.Common.{◌∙◌, ◌≤◌, suc, ap, arith, drop, length, sym, take, List}
use Rattle.std.specs.Prelude.{filter, not, Vec}
use Rattle.std.specs.declared.alloc.Global.{Global}
use Rattle.std.proofs.lemmas.List.{drop_all}
use Rattle.desk_model.specs.Keys.{below_by}
use Rattle.desk_model.proofs.Orders.{order_of}
use Rattle.desk_sorted.specs.Blocks.{rows_in}
use Rattle.desk_sorted.proofs.Walking.{all_between, between_none, first_at, if_ok}
use Rattle.desk_sorted.proofs.blocks.Blocks.place_for.Goals as goal

pub returns-in-Some-clause-place : goal.returns-in-Some-clause-place
returns-in-Some-clause-place g c =
    let key = c.args.key.now in
    let more = c.args.more.now in
    let blocks = c.open.new.self.blocks.items in
    let first = c.in-Some.first.now in
    let all = sym c.are_at.ensures ∙ c.if-are_at.true in
    if_ok c.open.result
    (λ at place. all_between g.R.Keyed.order (order_of g.met.R.Keyed.total) (g.K.Sought.side key)
    (g.met.K.Sought.splits key) (g.K.Sought.is_at key) (g.met.K.Sought.meets key) first
    (rows_in (take at blocks)) (rows_in (drop (suc at) blocks)) more
    (first_at (g.K.Sought.is_at key) more first c.in-Some.ensures.value all) all place)
    c.open.ensures.place

pub returns-in_ok-join-in-Some-2-clause-place : goal.returns-in_ok-join-in-Some-2-clause-place
returns-in_ok-join-in-Some-2-clause-place g c =
    let key = c.args.key.now in
    let one : length c.join.new.blocks.items ≤ 1 =
    omega (arith, c.join.new.blocks.ok.0, c.in_ok-join-in-Some-2.ensures.one) in
    between_none (below_by g.R.Keyed.order) _ c.args.more.now
    (ap (λ (l : List (Vec g.row.R.Denot Global)). filter (λ row. not (g.K.Sought.is_at key row))
    (rows_in l)) (drop_all 1 c.join.new.blocks.items one))
