use Rattle.std.proofs.Common.{◌∙◌, arith, sym}
use Rattle.desk_memory_rows.proofs.Ledgering.{find_number, find_below}
use Rattle.desk_memory_rows.proofs.ledger.duty_at.Goals as goal

pub returns-then-number-eq0 : goal.returns-then-number-eq0
returns-then-number-eq0 c = sym (find_below c.args.number 1 c.args.rows.now c.requires
    (omega (arith, c.if-number-eq0.true)))

pub returns : goal.returns
returns c = c.item_at.ensures
    ∙ find_number c.args.number c.args.rows.now c.requires (omega (arith, c.if-number-eq0.false))
