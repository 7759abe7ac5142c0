use Rattle.desk_store.specs.Counting.{known_by}
use Rattle.desk_store.proofs.Missed.{finds}
use Rattle.desk_store.proofs.store.SqlStoreStore.adoption.Goals as goal

pub returns-2 : goal.returns-2
returns-2 g c =
    let self = c.args.self.now in
    finds g.S.Store self.found self.tallies (known_by self.counts self.forms) self.conn
    c.adoption.new.conn c.adoption.result c.adoption.ensures
