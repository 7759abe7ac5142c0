use Rattle.std.proofs.Common.{ap}
use Rattle.desk_store.specs.Counting.{known_by}
use Rattle.desk_store.proofs.Missed.{finds_so}
use Rattle.desk_store.proofs.store.SqlStoreStore.standings_of.Goals as goal

pub returns : goal.returns
returns g c =
    let self = c.args.self.now in
    finds_so g.S.Store self.found self.tallies (known_by self.counts self.forms) self.conn
    c.standings_of.new.conn c.standings_of.result c.standings_of.ensures (λ t. Unit {0}) _
    (λ t same any. any) (λ x t same is. is (ap (λ k. k.duties) same))
