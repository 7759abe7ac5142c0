use Rattle.std.proofs.lemmas.Result.{IfOk-weaker}
use Rattle.desk_sql_adopt.proofs.Spared as spared
use Rattle.desk_model.specs.Tables.{tables}
use Rattle.desk_store.proofs.Counted.{looked}
use Rattle.sqlite.specs.Held.{state}
use Rattle.desk_store.specs.Counting.{known_by}
use Rattle.desk_store.proofs.Missed.{missed}
use Rattle.desk_store.proofs.store.SqlStore.snapshot.Goals as goal

pub returns-clause-kept : goal.returns-clause-kept
returns-clause-kept g c = looked c.args.self.now.found c.args.self.now.tallies _ _ _ _
    (spared.looked _ _ _ c.snapshot.ensures.read)

pub returns-clause-found : goal.returns-clause-found
returns-clause-found g c =
    IfOk-weaker c.snapshot.result _ _
    (λ s it. λ w right honest h ok held. (it honest (tables w h) held.2).listed
    (c.listed_tables_are_sorted.ensures w h (c.right_readings_list_in_order.ensures w right)))
    c.snapshot.ensures.found

pub returns-clause-cause : goal.returns-clause-cause
returns-clause-cause g c =
    let before = c.args.self.now in
    missed (λ t. Unit {0}) (λ t. Unit {0}) before.found before.tallies
    (known_by before.counts before.forms) (state g.S.Store before.conn)
    (state g.S.Store c.snapshot.new.conn) (λ t same any. any) c.snapshot.result
    c.snapshot.ensures.cause
