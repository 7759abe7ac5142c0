use Rattle.desk_sql_migrate.specs.Steps.{with_no_readings, with_no_waivers, with_readings}
use Rattle.desk_sql_migrate.specs.Steps.{with_version, without_version}
use Rattle.desk_sql_migrate.proofs.Gained.{step_fails, then_gains}
use Rattle.desk_sql_migrate.proofs.Whole.{first_upgraded}
use Rattle.desk_sql_migrate.proofs.upgrade.upgrade_first.Goals as goal

pub returns-in_err-declare_both-clause-upgraded : goal.returns-in_err-declare_both-clause-upgraded
returns-in_err-declare_both-clause-upgraded g c = step_fails c.from_residual.result
    c.from_residual.ensures.0 c.in_err-declare_both.ensures.gained

pub returns-clause-upgraded : goal.returns-clause-upgraded
returns-clause-upgraded g c = first_upgraded c.note_both.result
    (then_gains (λ rows. with_no_waivers (with_no_readings rows))
    (λ rows. with_version (without_version (with_readings rows))) c.note_both.result
    c.in_ok-declare_both.ensures.gained c.note_both.ensures.gained)
