use Rattle.std.proofs.Common.{ap}
use Rattle.desk_store.specs.Counting.{known_by}
use Rattle.desk_store.proofs.Missed.{finds_if}
use Rattle.desk_store.proofs.store.SqlStoreStore.duty.Goals as goal

pub returns-clause-looks : goal.returns-clause-looks
returns-clause-looks g c =
    let self = c.args.self.now in
    finds_if g.S.Store self.found self.tallies (known_by self.counts self.forms) self.conn
    c.duty.new.conn c.duty.result c.duty.ensures.looks (λ t same. ap (λ k. k.duties) same)
