use Rattle.std.proofs.Common.{◌∙◌, arith, ap, ◌<◌, length, List}
use Rattle.std.specs.Prelude.{slice_set}
use Rattle.std.proofs.lemmas.Result.{on_ok_weaker}
use Rattle.desk_model.specs.declared.row.ChangeRow.{ChangeRow}
use Rattle.desk_memory_rows.proofs.Ledgering.{get_some, set_more}
use Rattle.desk_memory_rows.proofs.ledger.push_change.Goals as goal

pub returns-clause-ok : goal.returns-clause-ok
returns-clause-ok c =
    let lt : c.args.place < length c.args.groups.now.items =
    omega (arith, c.args.groups.now.ok.0, c.requires) in
    on_ok_weaker c.push.result
    (λ is. ap (λ (g : List ChangeRow). slice_set c.args.groups.now.items c.args.place g) is
    ∙ set_more c.args.groups.now.items c.args.place c.index_mut-group.result.now c.args.change
    (get_some c.args.groups.now.items c.args.place c.index_mut-group.result.now lt
    c.index_mut-group.ensures.value))
    c.push.ensures.ok
