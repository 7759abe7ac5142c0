use Rattle.std.proofs.Common.{rules}
use Rattle.sqlite.specs.Held.{state}
use Rattle.desk_sql_write.proofs.Going.{memory_turns}
use Rattle.desk_sql_write.proofs.Inserts.{rule_added}
use Rattle.desk_sql_write.proofs.catalogue.RuleRowAdded.add.Goals as goal

pub returns-clause-adds : goal.returns-clause-adds
returns-clause-adds g c =
    rule_added c.args.self.now (state g.S.Store c.args.tx.now.conn.now)
    (state g.S.Store c.execute.new.tx.conn.now) c.execute.result
    (rw c.rule_values.ensures at c.execute.ensures.ran)
    (rw c.rule_values.ensures at c.execute.ensures.into) c.execute.ensures.survives

pub returns-in_err-codes-clause-adds : goal.returns-in_err-codes-clause-adds
returns-in_err-codes-clause-adds g c = memory_turns (search rules)
