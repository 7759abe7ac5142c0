use Rattle.std.proofs.Common.{refl}
use Rattle.sqlite.specs.Held.{state}
use Rattle.desk_sql_layout.specs.Held.{seen_of}
use Rattle.desk_store.specs.Counting.{known_by, tallied}
use Rattle.desk_store.proofs.Counted.{noted}
use Rattle.desk_store.proofs.store.SqlStoreStore.commit.Goals as goal

pub returns-clause-wrote : goal.returns-clause-wrote
returns-clause-wrote g c =
    let self = c.args.self.now in
    let new = c.write-written.new.self in
    rw (
      c.take_forms.ensures.conn,
      c.take_forms.ensures.counts,
      c.take_forms.ensures.tallies,
      c.take_forms.ensures.found,
    )
    (noted c.args.change (tallied self.found self.tallies (known_by self.counts self.forms)
    (seen_of (state g.S.Store self.conn))) (seen_of (state g.S.Store new.conn)) new.found
    new.tallies new.counts self.forms
    c.take_forms.new.self.forms c.write-written.result c.is_ok.result c.is_ok.ensures.value
    (rw (c.take_forms.ensures.forms, c.write-written.ensures.forms) refl)
    c.write-written.ensures.wrote
    (rw c.write-written.ensures.forms at c.write-written.ensures.failed))

pub returns-clause-cause : goal.returns-clause-cause
returns-clause-cause g c = rw c.take_forms.ensures.conn c.write-written.ensures.cause
