use Rattle.desk_sql_adopt.proofs.Spared as spared
use Rattle.desk_store.proofs.Counted.{looked}
use Rattle.sqlite.specs.Held.{state}
use Rattle.desk_store.specs.Counting.{known_by}
use Rattle.desk_store.proofs.Missed.{missed}
use Rattle.desk_store.proofs.store.SqlStore.audit.Goals as goal

pub returns-clause-kept : goal.returns-clause-kept
returns-clause-kept g c = looked c.args.self.now.found c.args.self.now.tallies _ _ _ _
    (spared.looked _ _ _ c.audit_connection.ensures.read)

pub returns-clause-cause : goal.returns-clause-cause
returns-clause-cause g c =
    let before = c.args.self.now in
    missed (λ t. Unit {0}) (λ t. Unit {0}) before.found before.tallies
    (known_by before.counts before.forms) (state g.S.Store before.conn)
    (state g.S.Store c.audit_connection.new.conn) (λ t same any. any) c.audit_connection.result
    c.audit_connection.ensures.cause
