use Rattle.std.proofs.Common.{ap, ◌∙◌}
use Rattle.desk_model.specs.declared.row.DutyRow.{DutyRow}
use Rattle.desk_memory.proofs.Founds.{duty_number}
use Rattle.desk_memory.proofs.store.MemStoreStore.duty.Goals as goal

pub returns-in_ok-duty_copy-in-Some-clause-same : goal.returns-in_ok-duty_copy-in-Some-clause-same
returns-in_ok-duty_copy-in-Some-clause-same c = ap (λ (row : DutyRow). row.number)
    c.in_ok-duty_copy-in-Some.ensures
    ∙ duty_number c.args.number _ c.in-Some.row.now c.in-Some.ensures
