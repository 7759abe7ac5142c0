use Rattle.std.proofs.Common.{◌∙◌, arith, sym, ap, List, []}
use Rattle.std.specs.Prelude.{Option, unwrap_or}
use Rattle.desk_model.specs.declared.row.ChangeRow.{ChangeRow}
use Rattle.desk_memory_rows.proofs.Ledgering.{filter_number, filter_below}
use Rattle.desk_memory_rows.proofs.ledger.group_at.Goals as goal

pub returns-then-number-eq0 : goal.returns-then-number-eq0
returns-then-number-eq0 c = sym (filter_below c.args.number 1 c.args.groups.now c.requires
    (omega (arith, c.if-number-eq0.true)))

pub returns : goal.returns
returns c = ap (λ (o : Option (List ChangeRow)). unwrap_or o []) c.item_at.ensures
    ∙ filter_number c.args.number c.args.groups.now c.requires
    (omega (arith, c.if-number-eq0.false))
