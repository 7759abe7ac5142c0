use Rattle.std.proofs.Common.{ap}
use Rattle.desk_store.specs.Counting.{known_by}
use Rattle.desk_store.proofs.Missed.{finds_if}
use Rattle.desk_store.proofs.store.SqlStoreStore.package_row.Goals as goal

pub returns : goal.returns
returns g c =
    let self = c.args.self.now in
    finds_if g.S.Store self.found self.tallies (known_by self.counts self.forms) self.conn
    c.package_row.new.conn c.package_row.result c.package_row.ensures
    (λ t same. ap (λ k. k.documents) same)
