use Rattle.desk_store.specs.Counting.{known_by}
use Rattle.desk_store.proofs.Missed.{finds}
use Rattle.desk_store.proofs.store.SqlStoreStore.documents.Goals as goal

pub returns : goal.returns
returns g c =
    let self = c.args.self.now in
    finds g.S.Store self.found self.tallies (known_by self.counts self.forms) self.conn
    c.document_heads.new.conn c.document_heads.result c.document_heads.ensures
