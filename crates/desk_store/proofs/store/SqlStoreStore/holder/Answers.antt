use Rattle.std.proofs.Common.{◌≡◌, ◌∙◌, false, rules, sym, true}
use Rattle.std.specs.Prelude.{Some}
use Rattle.sqlite.specs.Held.{state}
use Rattle.desk_access.proofs.Chains.{looked_err, same_self}
use Rattle.desk_history.specs.FromTables.{holder_found}
use Rattle.desk_sql_layout.specs.Held.{seen_of}
use Rattle.desk_sql_lookup.proofs.LookUps.{fails_too}
use Rattle.desk_store.specs.Counting.{known_by, tallied}
use Rattle.desk_sql_cache.specs.Holding.{have_releases}
use Rattle.desk_sql_cache.specs.declared.found.Found.{Found}
use Rattle.desk_store.proofs.Counted.{found, same}
use Rattle.desk_store.proofs.Missed.{finds_so}
use Rattle.desk_store.proofs.store.SqlStoreStore.holder.Goals as goal

pub returns-in-Some : goal.returns-in-Some
returns-in-Some g c =
    let self = c.args.self.now in
    record {
      found = λ clean t holds. c.in_ok-first.ensures t holds.1.places
          (rw c.in-Some.is at (holds.3 clean).1);
      kept = same_self (tallied self.found self.tallies (known_by self.counts self.forms)
          (seen_of (state g.S.Store self.conn)));
      cause = tt;
    }

pub returns-in_err-holders : goal.returns-in_err-holders
returns-in_err-holders g c =
    let self = c.args.self.now in
    finds_so g.S.Store self.found self.tallies (known_by self.counts self.forms) self.conn
    c.read_holders.new.conn c.from_residual-in_err-holders.result
    (fails_too g.S.Store self.conn c.read_holders.new.conn c.from_residual-in_err-holders.result
    c.in_err-holders.field-0.0 c.from_residual-in_err-holders.ensures.1
    (λ found t. found ≡ holder_found t c.args.document c.args.id.now) (λ t. Unit {0})
    c.in_err-holders.ensures)
    (λ t. have_releases t.releases t.choice ≡ true)
    (λ found t. found ≡ holder_found t c.args.document c.args.id.now) (λ t known all. tt)
    (λ x t known is. is)

pub returns-in_default-2 : goal.returns-in_default-2
returns-in_default-2 g c =
    let self = c.args.self.now in
    record {
      found = tt;
      kept = (same self.found self.tallies (known_by self.counts self.forms)
          (seen_of (state g.S.Store self.conn)) (seen_of (state g.S.Store c.read_holders.new.conn))
          c.in_ok-holders.ensures.kept).kept;
      cause = record {
        cause = λ clean opened unlimited t holds written all.
            let told = rw c.in_default-2.is at (c.in_ok-holders.ensures.found clean t holds.2) in
            absurd (let clash : true ≡ false = sym all ∙ told.1 in cc);
      };
    }

pub returns-in_err-release : goal.returns-in_err-release
returns-in_err-release g c =
    let self = c.args.self.now in
    let known = known_by self.counts self.forms in
    let old = seen_of (state g.S.Store self.conn) in
    let new = seen_of (state g.S.Store c.read_holders.new.conn) in
    record {
      found = search rules;
      kept = looked_err (tallied self.found self.tallies known old)
          (tallied self.found self.tallies known new) c.from_residual-in_err-release.result
          c.from_residual-in_err-release.ensures.0
          (same self.found self.tallies known old new c.in_ok-holders.ensures.kept).kept;
      cause = search rules;
    }

pub returns : goal.returns
returns g c =
    let self = c.args.self.now in
    let it = c.in_ok-holders.ensures in
    let has : Found = record self.found { holders = Some c.in-Some-2.holders } in
    record {
      found = λ clean t holds. c.in_ok-release.ensures t holds.1.places
          (rw c.in-Some-2.is at (it.found clean t holds.2)).0;
      kept = found self.found self.tallies (known_by self.counts self.forms) has
          (seen_of (state g.S.Store self.conn)) (seen_of (state g.S.Store c.read_holders.new.conn))
          it.kept
          (λ honest t held known kept are.
          (are.0, (rw c.in-Some-2.is at (it.found honest t held)).0, are.2));
      cause = tt;
    }
