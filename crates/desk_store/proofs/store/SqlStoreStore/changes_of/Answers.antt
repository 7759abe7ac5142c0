use Rattle.std.proofs.Common.{ap}
use Rattle.desk_store.specs.Counting.{known_by}
use Rattle.desk_store.proofs.Missed.{finds_if}
use Rattle.desk_store.proofs.store.SqlStoreStore.changes_of.Goals as goal

pub returns : goal.returns
returns g c =
    let self = c.args.self.now in
    finds_if g.S.Store self.found self.tallies (known_by self.counts self.forms) self.conn
    c.changes_of.new.conn c.changes_of.result c.changes_of.ensures
    (λ t same. ap (λ k. k.duties) same)
