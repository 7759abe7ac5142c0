use Rattle.desk_sql_migrate.specs.Steps.{with_version, without_version}
use Rattle.desk_sql_migrate.proofs.Gained.{step_fails, then_gains}
use Rattle.desk_sql_migrate.proofs.upgrade.renew_version.Goals as goal

pub returns-in_err-drop_version-clause-gained : goal.returns-in_err-drop_version-clause-gained
returns-in_err-drop_version-clause-gained g c = step_fails c.from_residual.result
    c.from_residual.ensures.0 c.in_err-drop_version.ensures.gained

pub returns-clause-gained : goal.returns-clause-gained
returns-clause-gained g c = then_gains without_version with_version c.note_version.result
    c.in_ok-drop_version.ensures.gained c.note_version.ensures.gained
