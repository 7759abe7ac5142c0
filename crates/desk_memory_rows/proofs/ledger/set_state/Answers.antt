use Rattle.std.proofs.Common.{arith, sym, ◌<◌, length}
use Rattle.desk_model.specs.Tables.{with_duty_state}
use Rattle.desk_memory_rows.proofs.Ledgering.{get_some, updated_place}
use Rattle.desk_memory_rows.proofs.ledger.set_state.Goals as goal

pub returns-clause-state : goal.returns-clause-state
returns-clause-state c =
    let lt : c.args.place < length c.args.rows.now.items =
    omega (arith, c.args.rows.now.ok.0, c.requires.place) in
    sym (updated_place (with_duty_state c.args.state) 1 c.args.place c.args.rows.now.items
    c.index_mut-row.result.now c.requires.numbered
    (get_some c.args.rows.now.items c.args.place c.index_mut-row.result.now lt
    c.index_mut-row.ensures.value))
