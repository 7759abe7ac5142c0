use Rattle.desk_store.specs.Counting.{known_by}
use Rattle.desk_store.proofs.Missed.{finds}
use Rattle.desk_store.proofs.store.SqlStoreStore.release.Goals as goal

pub returns : goal.returns
returns g c =
    let self = c.args.self.now in
    finds g.S.Store self.found self.tallies (known_by self.counts self.forms) self.conn
    c.release.new.conn c.release.result c.release.ensures
