use Rattle.std.proofs.Common.{arith}
use Rattle.desk_sql_write.proofs.Extending.{never_extends, next_extends, terms_extend}
use Rattle.desk_sql_write.proofs.change.freeze.Goals as goal

pub returns-clause-makes : goal.returns-clause-makes
returns-clause-makes g c =
    next_extends (terms_extend c.args.frozen.now c.args.duties.now c.args.changes.now)
    c.in_ok-freeze_release.ensures.sets c.add_terms.ensures.adds

pub returns-in_err-freeze_release-clause-makes : goal.returns-in_err-freeze_release-clause-makes
returns-in_err-freeze_release-clause-makes g c =
    never_extends (terms_extend c.args.frozen.now c.args.duties.now c.args.changes.now)
    (omega arith) c.from_residual.ensures.1 c.in_err-freeze_release.ensures.sets
