use Rattle.std.proofs.Common.{◌≡◌, ◌∙◌, ◌<◌, arith, length, List}
use Rattle.desk_model.specs.declared.row.ChangeRow.{ChangeRow}
use Rattle.desk_memory_rows.proofs.Ledgering.{get_some}
use Rattle.desk_memory_rows.proofs.Pushing.{undo_more, popped}
use Rattle.desk_memory_rows.proofs.ledger.pop_change.Goals as goal

pub returns-clause-undone : goal.returns-clause-undone
returns-clause-undone c = λ before change e.
    let groups : List (List ChangeRow) = c.args.groups.now.items in
    let group : List ChangeRow = c.index_mut-group.result.now in
    let lt : c.args.place < length groups = omega (arith, c.args.groups.now.ok.0, c.requires) in
    let rows : c.into_vec-rows.result.items ≡ group = c.into_vec-rows.ensures
    ∙ c.replace.ensures.value in
    undo_more groups before c.args.place change group c.from_vec.result e
    (get_some groups c.args.place group lt c.index_mut-group.ensures.value)
    (c.from_vec.ensures ∙ (c.pop.ensures.rest
    ∙ popped c.into_vec-rows.result.items group c.into_vec-rows.result.len rows
    c.into_vec-rows.result.ok.0))
