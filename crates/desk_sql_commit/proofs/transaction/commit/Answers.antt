use Rattle.std.proofs.Common.{rules, ◌≡◌, true}
use Rattle.sqlite.specs.Held.{state}
use Rattle.desk_sql_layout.specs.Writable.{is_writable}
use Rattle.desk_sql_commit.proofs.Commits.{committed}
use Rattle.desk_sql_commit.proofs.transaction.commit.Goals as goal

pub returns-then-is_writable-clause-wrote : goal.returns-then-is_writable-clause-wrote
returns-then-is_writable-clause-wrote g c =
    let writable : is_writable c.args.change.now ≡ true = search rules in
    committed c.args.is_new c.args.change.now writable (state g.S.Store c.args.conn.now)
    (state g.S.Store c.write.new.conn) c.write.ensures.crash
    c.write.result c.write.ensures.ok c.write.ensures.err c.write.ensures.stop
