use Rattle.std.proofs.Common.{◌≡◌, ◌∙◌, ap, sym, filter, None, Some}
use Rattle.std.specs.Option.{option_map}
use Rattle.sqlite.specs.Held.{state}
use Rattle.desk_history.specs.FromTables.{release_found}
use Rattle.desk_model.specs.Keys.{is_duty_of}
use Rattle.desk_model.specs.Queries.{totals_of}
use Rattle.desk_model.specs.declared.row.ReleaseRow.{ReleaseRow}
use Rattle.desk_sql_layout.specs.Held.{seen_of}
use Rattle.desk_sql_lookup.proofs.LookUps.{fails_too}
use Rattle.desk_store.specs.Counting.{known_by}
use Rattle.desk_store.proofs.Counted.{same}
use Rattle.desk_store.proofs.Missed.{finds}
use Rattle.desk_store.proofs.store.SqlStoreStore.tally.Goals as goal

pub returns-in_err-row : goal.returns-in_err-row
returns-in_err-row g c =
    let self = c.args.self.now in
    let release = c.args.release.now in
    finds g.S.Store self.found self.tallies (known_by self.counts self.forms) self.conn
    c.release.new.conn c.from_residual.result
    (fails_too g.S.Store self.conn c.release.new.conn c.from_residual.result c.in_err-row.field-0.0
    c.from_residual.ensures.1
    (λ found t. found ≡ option_map (λ row. totals_of (filter (is_duty_of release) t.duty))
    (release_found t release)) (λ t. Unit {0}) c.in_err-row.ensures)

pub returns-in-Some : goal.returns-in-Some
returns-in-Some g c =
    let self = c.args.self.now in
    let release = c.args.release.now in
    record {
      found = λ h t held.
          let found : release_found t release ≡ Some c.in-Some.row =
          sym (c.in_ok-row.ensures.found h t held.2) ∙ c.in-Some.is in
          c.totals.ensures.kept t release held.1
          (ap (option_map (λ (row : ReleaseRow). row.place)) found)
          ∙ sym (ap (option_map (λ (row : ReleaseRow). totals_of
          (filter (is_duty_of release) t.duty))) found);
      kept = same self.found self.tallies (known_by self.counts self.forms)
          (seen_of (state g.S.Store self.conn)) (seen_of (state g.S.Store c.release.new.conn))
          c.in_ok-row.ensures.kept;
      cause = tt;
    }

pub returns-in-None : goal.returns-in-None
returns-in-None g c =
    let self = c.args.self.now in
    let release = c.args.release.now in
    record {
      found = λ h t held.
          let found : release_found t release ≡ None = sym (c.in_ok-row.ensures.found h t held.2)
          ∙ c.in-None.is in
          sym (ap (option_map (λ (row : ReleaseRow). totals_of
          (filter (is_duty_of release) t.duty))) found);
      kept = same self.found self.tallies (known_by self.counts self.forms)
          (seen_of (state g.S.Store self.conn)) (seen_of (state g.S.Store c.release.new.conn))
          c.in_ok-row.ensures.kept;
      cause = tt;
    }
