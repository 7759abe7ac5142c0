use Rattle.desk_sql_migrate.specs.Steps.{with_no_waivers, with_version, without_version}
use Rattle.desk_sql_migrate.proofs.Gained.{step_fails, then_gains}
use Rattle.desk_sql_migrate.proofs.Whole.{second_upgraded}
use Rattle.desk_sql_migrate.proofs.upgrade.upgrade_second.Goals as goal

pub returns-in_err-declare_waivers-clause-upgraded : goal.returns-in_err-declare_waivers-clause-upgraded
returns-in_err-declare_waivers-clause-upgraded g c = step_fails c.from_residual.result
    c.from_residual.ensures.0 c.in_err-declare_waivers.ensures.gained

pub returns-clause-upgraded : goal.returns-clause-upgraded
returns-clause-upgraded g c = second_upgraded c.renew_version.result
    (then_gains with_no_waivers (λ rows. with_version (without_version rows)) c.renew_version.result
    c.in_ok-declare_waivers.ensures.gained c.renew_version.ensures.gained)
