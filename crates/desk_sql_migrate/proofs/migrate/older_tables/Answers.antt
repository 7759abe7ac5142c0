use Rattle.sqlite.specs.Held.{state}
use Rattle.desk_sql_migrate.proofs.Examined.{faults_in, found_in, history_in, left_in, reason_in, stayed_in}
use Rattle.desk_sql_migrate.proofs.migrate.older_tables.Goals as goal

pub returns-clause-found : goal.returns-clause-found
returns-clause-found g c = λ clean. rw c.older_of.ensures
    (found_in (state g.S.Store c.args.conn.now) c.examine_older-found.result
    (c.examine_older-found.ensures.found clean))

pub returns-clause-reason : goal.returns-clause-reason
returns-clause-reason g c = λ clean. rw c.older_of.ensures
    (reason_in (state g.S.Store c.args.conn.now) c.examine_older-found.result
    (c.examine_older-found.ensures.found clean) c.examine_older-found.ensures.refused)

pub returns-clause-history : goal.returns-clause-history
returns-clause-history g c = rw c.older_of.ensures
    (history_in (state g.S.Store c.args.conn.now) (state g.S.Store c.examine_older-found.new.conn)
    c.examine_older-found.result c.examine_older-found.ensures.held)

pub returns-clause-faults : goal.returns-clause-faults
returns-clause-faults g c = rw c.older_of.ensures
    (faults_in (state g.S.Store c.args.conn.now) (state g.S.Store c.examine_older-found.new.conn)
    c.examine_older-found.result c.examine_older-found.ensures.held)

pub returns-clause-stayed : goal.returns-clause-stayed
returns-clause-stayed g c = rw c.older_of.ensures
    (stayed_in (state g.S.Store c.args.conn.now) (state g.S.Store c.examine_older-found.new.conn)
    c.examine_older-found.result c.examine_older-found.ensures.read)

pub returns-clause-left : goal.returns-clause-left
returns-clause-left g c = rw c.older_of.ensures
    (left_in (state g.S.Store c.args.conn.now) (state g.S.Store c.examine_older-found.new.conn)
    c.examine_older-found.result c.examine_older-found.ensures.read)
