use Rattle.std.proofs.Common.{◌≡◌, ◌∙◌, ap, Some}
use Rattle.sqlite.specs.Held.{state}
use Rattle.desk_history.specs.FromTables.{adoption_count}
use Rattle.desk_sql_layout.specs.Held.{seen_of}
use Rattle.desk_sql_lookup.proofs.LookUps.{fails_too}
use Rattle.desk_store.specs.Counting.{known_by}
use Rattle.desk_sql_cache.specs.declared.found.Found.{Found}
use Rattle.desk_store.proofs.Counted.{found, of_rows}
use Rattle.desk_store.proofs.Missed.{finds}
use Rattle.desk_store.proofs.store.SqlStoreStore.adoption_count.Goals as goal

pub returns-in_err-kept : goal.returns-in_err-kept
returns-in_err-kept g c =
    let self = c.args.self.now in
    finds g.S.Store self.found self.tallies (known_by self.counts self.forms) self.conn
    c.read_adoptions.new.conn c.from_residual.result
    (fails_too g.S.Store self.conn c.read_adoptions.new.conn c.from_residual.result
    c.in_err-kept.field-0.0 c.from_residual.ensures.1
    (λ count t. count ≡ adoption_count t c.args.document) (λ t. Unit {0})
    c.in_err-kept.ensures.looks)

pub returns-2 : goal.returns-2
returns-2 g c =
    let self = c.args.self.now in
    let known = known_by self.counts self.forms in
    let old = seen_of (state g.S.Store self.conn) in
    let new = seen_of (state g.S.Store c.read_adoptions.new.conn) in
    let kept = c.in_ok-kept.kept in
    let it = c.in_ok-kept.ensures.looks in
    let has : Found = record self.found { adoptions = Some kept } in
    record {
      found = of_rows self.found self.tallies known
          (λ t. kept.count ≡ adoption_count t c.args.document) old new
          (λ honest t held. (it.found honest t held).0
          ∙ ap (adoption_count t) c.in_ok-kept.ensures.document);
      kept = found self.found self.tallies known has old new it.kept
          (λ honest t held known kept are. (it.found honest t held, are.1, are.2));
      cause = tt;
    }
