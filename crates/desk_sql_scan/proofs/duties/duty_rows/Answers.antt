use Rattle.desk_sql_scan.proofs.DutyQueries.{duty_read}
use Rattle.desk_sql_scan.proofs.duties.duty_rows.Goals as goal

pub returns : goal.returns
returns g c = duty_read g.R.Source c.args.source.now c.items.new.source c.items.result
    c.items.ensures
