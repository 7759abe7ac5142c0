use Rattle.std.proofs.Common.{◌-◌, ◌≤◌, suc, length, rules, arith}
use Rattle.std.specs.Ordering.{is_le}
use Rattle.desk_model.specs.Keys.{below_by}
use Rattle.desk_sorted.proofs.Blocking.{is_parted}
use Rattle.desk_sorted.proofs.Searching.{all_further, between_of, none_left, row_turns}
use Rattle.desk_sorted.proofs.blocks.block_for.Goals as goal

pub returns-then-place-blocks-clause-place : goal.returns-then-place-blocks-clause-place
returns-then-place-blocks-clause-place g c =
    let order = g.R.Keyed.order in
    let row = c.args.row.now in
    let split = is_parted (below_by order) (λ y. is_le (order y row))
    (row_turns g.met.R.Keyed.total row) c.args.blocks.now c.partition_point-place.result
    c.partition_point-place.ensures.bound c.requires.ascending c.requires.filled
    c.partition_point-place.ensures.partitioned (λ a r f' k. search rules) in
    between_of g.met.R.Keyed.total row _ _ split.front split.back

pub returns-else-place-blocks-clause-place : goal.returns-else-place-blocks-clause-place
returns-else-place-blocks-clause-place g c =
    let order = g.R.Keyed.order in
    let row = c.args.row.now in
    let blocks = c.args.blocks.now in
    let last = length blocks - 1 in
    let before : last ≤ c.partition_point-place.result = omega (arith, c.if-place-blocks.false) in
    let split = is_parted (below_by order) (λ y. is_le (order y row))
    (row_turns g.met.R.Keyed.total row) blocks c.partition_point-place.result
    c.partition_point-place.ensures.bound c.requires.ascending c.requires.filled
    c.partition_point-place.ensures.partitioned (λ a r f' k. search rules) in
    between_of g.met.R.Keyed.total row _ _ (all_further (λ y. is_le (order y row)) blocks last
    c.partition_point-place.result before split.front)
    (none_left (λ y. is_le (order y row)) blocks (suc last) (omega arith))
