use Rattle.std.proofs.Common.{ap, sym, ◌∙◌}
use Rattle.std.specs.Option.{option_and_then, option_copied}
use Rattle.desk_base.proofs.Lists.{last_is}
use Rattle.desk_model.specs.declared.row.ChangeRow.{ChangeRow}
use Rattle.desk_memory_rows.proofs.ledger.end_of.Goals as goal

pub returns-in-Some : goal.returns-in-Some
returns-in-Some c =
    ap (λ o. option_and_then (λ (row : ChangeRow). row.last_day) (option_copied o))
    (sym c.in-Some.is)
    ∙ (ap (option_and_then (λ (row : ChangeRow). row.last_day)) c.last.ensures.value
    ∙ ap (option_and_then (λ (row : ChangeRow). row.last_day)) (last_is c.args.rows.now))
