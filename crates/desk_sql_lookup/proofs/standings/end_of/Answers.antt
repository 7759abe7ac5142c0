use Rattle.std.proofs.Common.{ap, ◌∙◌}
use Rattle.std.specs.Option.{option_and_then}
use Rattle.desk_model.specs.declared.row.ChangeRow.{ChangeRow}
use Rattle.desk_sql_lookup.proofs.StandingLemmas.{last_is}
use Rattle.desk_sql_lookup.proofs.standings.end_of.Goals as goal

pub returns-in-Some : goal.returns-in-Some
returns-in-Some c = ap (option_and_then (λ (change : ChangeRow). change.last_day))
    (c.in-Some.ensures.value ∙ last_is c.args.changes.now)
