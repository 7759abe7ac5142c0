use Rattle.std.proofs.Common.{◌≡◌, ◌∙◌, ap, filter, map, refl, sym}
use Rattle.sqlite.specs.Held.{state}
use Rattle.desk_model.specs.Keys.{is_choice_of, is_choice_in}
use Rattle.desk_sql_layout.specs.Held.{seen_of}
use Rattle.desk_sql_lookup.proofs.LookUps.{fails_too}
use Rattle.desk_store.specs.Counting.{known_by}
use Rattle.desk_sql_cache.specs.declared.found.Found.{Found}
use Rattle.desk_store.proofs.Counted.{found}
use Rattle.desk_store.proofs.Missed.{finds, lacks_first, lacks_then}
use Rattle.desk_store.proofs.RepeatedLemmas.{terms_among}
use Rattle.desk_store.proofs.store.SqlStore.read_chosen.Goals as goal

pub returns-in_err-release : goal.returns-in_err-release
returns-in_err-release g c =
    let self = c.args.self.now in
    let key = c.args.key.now in
    lacks_first g.S.Store self.found self.tallies (known_by self.counts self.forms) self.conn
    c.from_residual.result (λ t. Unit {0})
    (λ found t. found.items ≡ map (λ row. row.term)
    (filter (is_choice_of key.release.now key.document key.id.now) t.choice))
    c.from_residual.ensures.1

pub returns-in_err-read : goal.returns-in_err-read
returns-in_err-read g c =
    let self = c.args.self.now in
    let key = c.args.key.now in
    finds g.S.Store self.found self.tallies (known_by self.counts self.forms) self.conn
    c.choices_in.new.conn c.from_residual-in_err-read.result
    (fails_too g.S.Store self.conn c.choices_in.new.conn c.from_residual-in_err-read.result
    c.in_err-read.field-0.0 c.from_residual-in_err-read.ensures.1
    (λ found t. found.items ≡ map (λ row. row.term)
    (filter (is_choice_of key.release.now key.document key.id.now) t.choice)) (λ t. Unit {0})
    c.in_err-read.ensures)

pub returns-in_err-rows : goal.returns-in_err-rows
returns-in_err-rows g c =
    let self = c.args.self.now in
    let key = c.args.key.now in
    lacks_then g.S.Store self.found self.tallies (known_by self.counts self.forms) self.conn
    c.choices_in.new.conn c.from_residual-in_err-rows.result (λ t. Unit {0})
    (λ found t. found.items ≡ map (λ row. row.term)
    (filter (is_choice_of key.release.now key.document key.id.now) t.choice))
    c.in_ok-read.ensures.kept c.in_err-rows.field-0.0 c.in_err-rows.ensures.fault
    c.from_residual-in_err-rows.ensures.1

pub returns-in_err-terms : goal.returns-in_err-terms
returns-in_err-terms g c =
    let self = c.args.self.now in
    let key = c.args.key.now in
    lacks_then g.S.Store self.found self.tallies (known_by self.counts self.forms) self.conn
    c.choices_in.new.conn c.from_residual-in_err-terms.result (λ t. Unit {0})
    (λ found t. found.items ≡ map (λ row. row.term)
    (filter (is_choice_of key.release.now key.document key.id.now) t.choice))
    c.in_ok-read.ensures.kept _ refl c.from_residual-in_err-terms.ensures.1

pub returns : goal.returns
returns g c =
    let self = c.args.self.now in
    let key = c.args.key.now in
    let it = c.in_ok-read.ensures in
    let rows = c.in_ok-rows.rows.rows.items in
    let has : Found = record self.found {
      last = record self.found.last { choices = c.of-2.result };
    } in
    record {
      found = λ clean t holds. c.in_ok-terms.ensures
          ∙ terms_among key.release.now key.document key.id.now rows t.choice
          (c.in_ok-rows.ensures.rows ∙ it.found clean t holds.2);
      kept = found self.found self.tallies (known_by self.counts self.forms) has
          (seen_of (state g.S.Store self.conn)) (seen_of (state g.S.Store c.choices_in.new.conn))
          it.kept
          (λ honest t held known kept are. (
            are.0,
            are.1,
            record {
              document = are.2.document;
              rule = are.2.rule;
              conclusions = are.2.conclusions;
              choices = c.of-2.ensures.are t
                  (c.in_ok-rows.ensures.rows ∙ (it.found honest t held
                  ∙ ap (λ name. filter (is_choice_in name) t.choice)
                  (sym c.in_ok-release.ensures)));
            },
          ));
      cause = tt;
    }
