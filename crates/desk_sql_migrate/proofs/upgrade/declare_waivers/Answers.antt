use Rattle.sqlite.specs.Held.{state}
use Rattle.desk_sql_migrate.proofs.Gained.{waivers_gained}
use Rattle.desk_sql_migrate.proofs.upgrade.declare_waivers.Goals as goal

pub returns-clause-gained : goal.returns-clause-gained
returns-clause-gained g c = record {
  done = waivers_gained (state g.S.Store c.args.tx.now.conn.now)
      (state g.S.Store c.execute.new.tx.conn.now) c.execute.result c.execute.ensures.ran;
  survives = c.execute.ensures.survives;
}
