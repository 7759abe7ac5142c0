use Rattle.std.proofs.Common.{◌∙◌, rules}
use Rattle.desk_memory_rows.proofs.Turns.{taken}
use Rattle.desk_memory_rows.proofs.ledger.Ledger.can_take.Goals as goal

pub returns-in-Moved-clause-is : goal.returns-in-Moved-clause-is
returns-in-Moved-clause-is c = search rules

pub returns-in-Withdrew-clause-is : goal.returns-in-Withdrew-clause-is
returns-in-Withdrew-clause-is c = search rules

pub returns-in-Moved-clause-follows : goal.returns-in-Moved-clause-follows
returns-in-Moved-clause-follows c = λ t same held follows.
    let ledger = c.args.self.now in
    returns-in-Moved-clause-is c ∙ taken c.args.change.now t ledger.duties.items ledger.groups.items
    ledger.duties_numbered ledger.paired same held follows

pub returns-in-Withdrew-clause-follows : goal.returns-in-Withdrew-clause-follows
returns-in-Withdrew-clause-follows c = λ t same held follows.
    let ledger = c.args.self.now in
    returns-in-Withdrew-clause-is c
    ∙ taken c.args.change.now t ledger.duties.items ledger.groups.items ledger.duties_numbered
    ledger.paired same held follows
