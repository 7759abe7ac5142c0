use Rattle.std.proofs.lemmas.Result.{IfErr-weaker}
use Rattle.desk_sql_lookup.proofs.changes.read_changes.Goals as goal

pub returns-clause-cause : goal.returns-clause-cause
returns-clause-cause c = IfErr-weaker c.with_waivers.result _ _
    (λ fault told xs is ends rows_are ends_are days last. told xs is rows_are days)
    c.with_waivers.ensures.cause
