use Rattle.desk_sql_migrate.specs.Steps.{with_no_readings, with_no_waivers}
use Rattle.desk_sql_migrate.proofs.Gained.{step_fails, then_gains}
use Rattle.desk_sql_migrate.proofs.upgrade.declare_both.Goals as goal

pub returns-in_err-declare_readings-clause-gained : goal.returns-in_err-declare_readings-clause-gained
returns-in_err-declare_readings-clause-gained g c = step_fails c.from_residual.result
    c.from_residual.ensures.0 c.in_err-declare_readings.ensures.gained

pub returns-clause-gained : goal.returns-clause-gained
returns-clause-gained g c = then_gains with_no_readings with_no_waivers c.declare_waivers.result
    c.in_ok-declare_readings.ensures.gained c.declare_waivers.ensures.gained
