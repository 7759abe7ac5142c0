use Rattle.std.proofs.Common.{◌≡◌, ap, length, rules}
use Rattle.sqlite.specs.Held.{state}
use Rattle.desk_access.proofs.Chains.{looked_err, same_self}
use Rattle.desk_history.specs.FromTables.{rules_found}
use Rattle.desk_model.specs.History.{rule_for}
use Rattle.desk_sql_layout.specs.Held.{seen_of}
use Rattle.desk_sql_lookup.proofs.LookUps.{fails_too}
use Rattle.desk_store.specs.Counting.{known_by, tallied}
use Rattle.desk_sql_cache.specs.declared.found.Found.{Found}
use Rattle.desk_store.proofs.Counted.{found, same}
use Rattle.desk_store.proofs.Missed.{finds_so, lacks_first}
use Rattle.desk_store.proofs.store.SqlStoreStore.rule.Goals as goal

pub returns-in_err-known : goal.returns-in_err-known
returns-in_err-known g c =
    let self = c.args.self.now in
    lacks_first g.S.Store self.found self.tallies (known_by self.counts self.forms) self.conn
    c.from_residual.result (λ t. Unit {0})
    (λ found t. found ≡ rule_for (rules_found t) c.args.term.now c.args.form.now)
    c.from_residual.ensures.1

pub returns-in-Some : goal.returns-in-Some
returns-in-Some g c =
    let self = c.args.self.now in
    record {
      found = λ clean t holds. (rw c.in-Some.is at c.in_ok-known.ensures.found) t (holds.3 clean).2.rule;
      kept = same_self (tallied self.found self.tallies (known_by self.counts self.forms)
          (seen_of (state g.S.Store self.conn)));
      cause = tt;
    }

pub returns-in_err-found : goal.returns-in_err-found
returns-in_err-found g c =
    let self = c.args.self.now in
    finds_so g.S.Store self.found self.tallies (known_by self.counts self.forms) self.conn
    c.rule.new.conn c.from_residual-in_err-found.result
    (fails_too g.S.Store self.conn c.rule.new.conn c.from_residual-in_err-found.result
    c.in_err-found.field-0.0 c.from_residual-in_err-found.ensures.1
    (λ found t. length t.catalogue ≡ self.counts.revisions
    → found ≡ rule_for (rules_found t) c.args.term.now c.args.form.now) (λ t. Unit {0})
    c.in_err-found.ensures)
    (λ t. Unit {0}) _ (λ t same any. any) (λ x t same is. is (ap (λ k. k.revisions) same))

pub returns-in_err-keep_rule : goal.returns-in_err-keep_rule
returns-in_err-keep_rule g c =
    let self = c.args.self.now in
    let known = known_by self.counts self.forms in
    let old = seen_of (state g.S.Store self.conn) in
    let new = seen_of (state g.S.Store c.rule.new.conn) in
    rw c.in_err-keep_rule.ensures.err (record {
      found = search rules;
      kept = looked_err (tallied self.found self.tallies known old)
          (tallied self.found self.tallies known new) c.from_residual-in_err-keep_rule.result
          c.from_residual-in_err-keep_rule.ensures.0
          (same self.found self.tallies known old new c.in_ok-found.ensures.kept).kept;
      cause = search rules;
    })

pub returns : goal.returns
returns g c =
    let self = c.args.self.now in
    let known = known_by self.counts self.forms in
    let old = seen_of (state g.S.Store self.conn) in
    let new = seen_of (state g.S.Store c.rule.new.conn) in
    let it = c.in_ok-found.ensures in
    let has : Found = record self.found { last = c.keep_rule.new.self } in
    record {
      found = λ clean t holds. it.found clean t holds.2 (ap (λ k. k.revisions) holds.0);
      kept = found self.found self.tallies known has old new it.kept
          (λ honest t held same kept are. (
            are.0,
            are.1,
            c.in_ok-keep_rule.ensures.ok t c.args.term.now c.args.form.now
                (it.found honest t held (ap (λ k. k.revisions) same)) are.2,
          ));
      cause = tt;
    }
