use Rattle.std.proofs.Common.{◌≡◌, ◌∙◌, refl}
use Rattle.sqlite.specs.Held.{state}
use Rattle.desk_model.specs.Conclusions.{office_text}
use Rattle.desk_sql_layout.specs.Held.{seen_of}
use Rattle.desk_sql_lookup.proofs.LookUps.{fails_too}
use Rattle.desk_store.specs.Counting.{known_by}
use Rattle.desk_sql_cache.specs.declared.found.Found.{Found}
use Rattle.desk_store.proofs.Counted.{found}
use Rattle.desk_store.proofs.Missed.{finds, lacks_then}
use Rattle.desk_store.proofs.RepeatedLemmas.{office_among}
use Rattle.desk_store.proofs.store.SqlStore.read_conclusion.Goals as goal

pub returns-in_err-read : goal.returns-in_err-read
returns-in_err-read g c =
    let self = c.args.self.now in
    finds g.S.Store self.found self.tallies (known_by self.counts self.forms) self.conn
    c.conclusions_in.new.conn c.from_residual.result
    (fails_too g.S.Store self.conn c.conclusions_in.new.conn c.from_residual.result
    c.in_err-read.field-0.0 c.from_residual.ensures.1
    (λ found t. found ≡ office_text t.conclusion c.args.document c.args.id.now) (λ t. Unit {0})
    c.in_err-read.ensures)

pub returns-in_err-rows : goal.returns-in_err-rows
returns-in_err-rows g c =
    let self = c.args.self.now in
    lacks_then g.S.Store self.found self.tallies (known_by self.counts self.forms) self.conn
    c.conclusions_in.new.conn c.from_residual-in_err-rows.result (λ t. Unit {0})
    (λ found t. found ≡ office_text t.conclusion c.args.document c.args.id.now)
    c.in_ok-read.ensures.kept c.in_err-rows.field-0.0 c.in_err-rows.ensures.fault
    c.from_residual-in_err-rows.ensures.1

pub returns-in_err-expression : goal.returns-in_err-expression
returns-in_err-expression g c =
    let self = c.args.self.now in
    lacks_then g.S.Store self.found self.tallies (known_by self.counts self.forms) self.conn
    c.conclusions_in.new.conn c.from_residual-in_err-expression.result (λ t. Unit {0})
    (λ found t. found ≡ office_text t.conclusion c.args.document c.args.id.now)
    c.in_ok-read.ensures.kept _ refl c.from_residual-in_err-expression.ensures.1

pub returns : goal.returns
returns g c =
    let self = c.args.self.now in
    let document = c.args.document in
    let it = c.in_ok-read.ensures in
    let rows = c.in_ok-rows.rows.rows.items in
    let has : Found = record self.found {
      last = record self.found.last { conclusions = c.of.result };
    } in
    record {
      found = λ clean t holds. c.in_ok-expression.ensures
          ∙ office_among document c.args.id.now rows t.conclusion
          (c.in_ok-rows.ensures.rows ∙ it.found clean t holds.2);
      kept = found self.found self.tallies (known_by self.counts self.forms) has
          (seen_of (state g.S.Store self.conn))
          (seen_of (state g.S.Store c.conclusions_in.new.conn)) it.kept
          (λ honest t held known kept are. (
            are.0,
            are.1,
            record {
              document = are.2.document;
              rule = are.2.rule;
              conclusions = c.of.ensures.are t (c.in_ok-rows.ensures.rows ∙ it.found honest t held);
              choices = are.2.choices;
            },
          ));
      cause = tt;
    }
