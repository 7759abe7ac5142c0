use Rattle.sqlite.specs.Held.{state}
use Rattle.desk_sql_migrate.proofs.Rows.{version_dropped}
use Rattle.desk_sql_migrate.proofs.upgrade.drop_version.Goals as goal

pub returns-clause-gained : goal.returns-clause-gained
returns-clause-gained g c = record {
  done = version_dropped (state g.S.Store c.args.tx.now.conn.now)
      (state g.S.Store c.execute.new.tx.conn.now) c.execute.result c.execute.ensures.ran;
  survives = c.execute.ensures.survives;
}
