use Rattle.desk_sql_migrate.specs.Steps.{with_readings, with_version, without_version}
use Rattle.desk_sql_migrate.proofs.Gained.{step_fails, then_gains}
use Rattle.desk_sql_migrate.proofs.upgrade.note_both.Goals as goal

pub returns-in_err-note_readings-clause-gained : goal.returns-in_err-note_readings-clause-gained
returns-in_err-note_readings-clause-gained g c = step_fails c.from_residual.result
    c.from_residual.ensures.0 c.in_err-note_readings.ensures.gained

pub returns-clause-gained : goal.returns-clause-gained
returns-clause-gained g c = then_gains with_readings (λ rows. with_version (without_version rows))
    c.renew_version.result c.in_ok-note_readings.ensures.gained c.renew_version.ensures.gained
