use Rattle.sqlite.specs.Held.{state}
use Rattle.desk_sql_migrate.proofs.Ending.{faults_first, history_first, kept_first, left_first, migrated_first}
use Rattle.desk_sql_migrate.proofs.Ending.{reason_first, stop_first, survives_first}
use Rattle.desk_sql_migrate.proofs.migrate.migrate_tables.Goals as goal

pub returns-clause-migrated : goal.returns-clause-migrated
returns-clause-migrated g c =
    migrated_first (state g.S.Store c.args.conn.now) (state g.S.Store c.older_tables.new.conn)
    (state g.S.Store c.write-written.new.conn) c.in_ok-version.ensures.stayed
    c.in_ok-version.version
    c.write-written.result c.write-written.ensures.left c.outcome.result c.outcome.ensures
    c.in_ok-version.ensures.found c.write-written.ensures.ends

pub returns-clause-kept : goal.returns-clause-kept
returns-clause-kept g c = λ clean.
    kept_first (state g.S.Store c.args.conn.now) (state g.S.Store c.older_tables.new.conn)
    (state g.S.Store c.write-written.new.conn) c.in_ok-version.ensures.stayed
    c.in_ok-version.version
    c.write-written.result c.write-written.ensures.left c.outcome.result c.outcome.ensures
    (c.write-written.ensures.kept clean)

pub returns-clause-stop : goal.returns-clause-stop
returns-clause-stop g c = λ clean.
    stop_first (state g.S.Store c.args.conn.now) (state g.S.Store c.older_tables.new.conn)
    (state g.S.Store c.write-written.new.conn) c.in_ok-version.ensures.stayed
    c.in_ok-version.version
    c.write-written.result c.write-written.ensures.left c.outcome.result c.outcome.ensures
    c.in_ok-version.ensures.found c.write-written.ensures.ends clean c.write-written.ensures.stop

pub returns-clause-reason : goal.returns-clause-reason
returns-clause-reason g c =
    reason_first (state g.S.Store c.args.conn.now) (state g.S.Store c.older_tables.new.conn)
    (state g.S.Store c.write-written.new.conn) c.in_ok-version.ensures.stayed
    c.in_ok-version.version
    c.write-written.result c.write-written.ensures.left c.outcome.result c.outcome.ensures
    c.in_ok-version.ensures.found c.write-written.ensures.ends

pub returns-clause-survives : goal.returns-clause-survives
returns-clause-survives g c =
    survives_first (state g.S.Store c.args.conn.now) (state g.S.Store c.older_tables.new.conn)
    (state g.S.Store c.write-written.new.conn) c.in_ok-version.ensures.stayed
    c.in_ok-version.version
    c.write-written.result c.write-written.ensures.left c.outcome.result c.outcome.ensures

pub returns-clause-left : goal.returns-clause-left
returns-clause-left g c =
    left_first (state g.S.Store c.args.conn.now) (state g.S.Store c.older_tables.new.conn)
    (state g.S.Store c.write-written.new.conn) c.in_ok-version.ensures.stayed
    c.in_ok-version.version
    c.write-written.result c.write-written.ensures.left c.outcome.result c.outcome.ensures

pub returns-clause-history : goal.returns-clause-history
returns-clause-history g c =
    history_first (state g.S.Store c.args.conn.now) (state g.S.Store c.older_tables.new.conn)
    (state g.S.Store c.write-written.new.conn) c.in_ok-version.ensures.stayed
    c.in_ok-version.version
    c.write-written.result c.write-written.ensures.left c.outcome.result c.outcome.ensures
    c.in_ok-version.ensures.history

pub returns-clause-faults : goal.returns-clause-faults
returns-clause-faults g c =
    faults_first (state g.S.Store c.args.conn.now) (state g.S.Store c.older_tables.new.conn)
    (state g.S.Store c.write-written.new.conn) c.in_ok-version.ensures.stayed
    c.in_ok-version.version
    c.write-written.result c.write-written.ensures.left c.outcome.result c.outcome.ensures
    c.in_ok-version.ensures.history c.write-written.ensures.sound
