use Rattle.std.proofs.Common.{◌≡◌, ap, length}
use Rattle.std.specs.Prelude.{find}
use Rattle.std.specs.Option.{option_map}
use Rattle.sqlite.specs.Held.{state}
use Rattle.desk_access.proofs.Chains.{same_self}
use Rattle.desk_history.specs.FromTables.{known_document}
use Rattle.desk_model.specs.Keys.{is_document}
use Rattle.desk_sql_layout.specs.Held.{seen_of}
use Rattle.desk_sql_lookup.proofs.LookUps.{fails_too}
use Rattle.desk_store.specs.Counting.{known_by, tallied}
use Rattle.desk_sql_cache.specs.declared.found.Found.{Found}
use Rattle.desk_store.proofs.Counted.{found}
use Rattle.desk_store.proofs.Missed.{finds_if}
use Rattle.desk_store.proofs.store.SqlStoreStore.document.Goals as goal

pub returns-in-Some-clause-looks : goal.returns-in-Some-clause-looks
returns-in-Some-clause-looks g c =
    let self = c.args.self.now in
    record {
      found = λ clean t holds. c.in-Some.ensures.found t (holds.3 clean).2.document;
      kept = same_self (tallied self.found self.tallies (known_by self.counts self.forms)
          (seen_of (state g.S.Store self.conn)));
      cause = tt;
    }

pub returns-in_err-found-clause-looks : goal.returns-in_err-found-clause-looks
returns-in_err-found-clause-looks g c =
    let self = c.args.self.now in
    finds_if g.S.Store self.found self.tallies (known_by self.counts self.forms) self.conn
    c.document.new.conn c.from_residual.result
    (fails_too g.S.Store self.conn c.document.new.conn c.from_residual.result
    c.in_err-found.field-0.0 c.from_residual.ensures.1
    (λ found t. length t.document ≡ self.counts.documents
    → found ≡ option_map known_document (find (is_document c.args.number) t.document))
    (λ t. length t.document ≡ self.counts.documents) c.in_err-found.ensures.looks)
    (λ t same. ap (λ k. k.documents) same)

pub returns-clause-looks : goal.returns-clause-looks
returns-clause-looks g c =
    let self = c.args.self.now in
    let known = known_by self.counts self.forms in
    let old = seen_of (state g.S.Store self.conn) in
    let new = seen_of (state g.S.Store c.document.new.conn) in
    let it = c.in_ok-found.ensures.looks in
    let has : Found = record self.found { last = c.keep_document.new.self } in
    record {
      found = λ clean t holds. it.found clean t holds.2 (ap (λ k. k.documents) holds.0);
      kept = found self.found self.tallies known has old new it.kept
          (λ honest t held same kept are. (
            are.0,
            are.1,
            c.keep_document.ensures.are t (it.found honest t held (ap (λ k. k.documents) same)) are.2,
          ));
      cause = tt;
    }
