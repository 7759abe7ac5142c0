use Rattle.std.proofs.Common.{rules}
use Rattle.desk_sql_write.proofs.Going.{memory_turns}
use Rattle.desk_sql_write.proofs.Inserts.{changes_added}
use Rattle.desk_sql_write.proofs.duty.ChangeRowAddedInEights.add_eight.Goals as goal

pub returns-clause-adds : goal.returns-clause-adds
returns-clause-adds g c =
    changes_added c.args.rows.now c.requires _ _ _
    (rw (c.as_slice.ensures.value, c.in_ok-values.ensures) at c.execute.ensures.ran)
    (rw (c.as_slice.ensures.value, c.in_ok-values.ensures) at c.execute.ensures.into)
    c.execute.ensures.survives

pub returns-in_err-values-clause-adds : goal.returns-in_err-values-clause-adds
returns-in_err-values-clause-adds g c = memory_turns (search rules)
