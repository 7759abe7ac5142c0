use Rattle.std.proofs.Common.{◌≡◌, ◌∙◌, filter, map, Ok}
use Rattle.sqlite.specs.Held.{state}
use Rattle.desk_model.specs.Keys.{is_choice_of}
use Rattle.desk_model.specs.Tables.{Tables}
use Rattle.desk_sql_layout.specs.Held.{seen_of}
use Rattle.desk_store.specs.Counting.{known_by, tallied}
use Rattle.desk_sql_cache.specs.Found.{AreFound}
use Rattle.desk_sql_cache.specs.Repeated.{AreChoices}
use Rattle.desk_sql_cache.specs.declared.found.Found.{Found}
use Rattle.desk_sql_cache.specs.declared.repeated.Choices.{Choices}
use Rattle.desk_store.proofs.Missed.{finds, finds_noted, lacks_first, noted_alone}
use Rattle.desk_store.proofs.RepeatedLemmas.{terms_among}
use Rattle.desk_store.proofs.store.SqlStoreStore.chosen.Goals as goal

abbrev noting : Found → Choices → Found
noting had now = record had { last = record had.last { choices = now } }

noted : (had : Found) (now : Choices)
    → ((t : Tables) → AreChoices had.last.choices t → AreChoices now t) → (t : Tables)
    → AreFound had t → AreFound (noting had now) t
noted had now more t are = (
  are.0,
  are.1,
  record {
    document = are.2.document;
    rule = are.2.rule;
    conclusions = are.2.conclusions;
    choices = more t are.2.choices;
  },
)

pub returns-in_err-ask : goal.returns-in_err-ask
returns-in_err-ask g c =
    let self = c.args.self.now in
    let has = noting self.found c.ask.new.self in
    let known = known_by self.counts self.forms in
    finds_noted self.found has self.tallies known
    (noted self.found c.ask.new.self c.ask.ensures.are) (seen_of (state g.S.Store self.conn))
    (λ t. Unit {0}) (λ found t. found.items
    ≡ map (λ row. row.term) (filter (is_choice_of c.args.release.now c.args.document c.args.id.now)
    t.choice))
    (tallied has self.tallies known (seen_of (state g.S.Store self.conn)))
    (state g.S.Store self.conn) (state g.S.Store self.conn) c.from_residual.result
    (lacks_first g.S.Store has self.tallies known self.conn c.from_residual.result (λ t. Unit {0}) _
    c.from_residual.ensures.1)

pub returns-then-branch : goal.returns-then-branch
returns-then-branch g c =
    let self = c.args.self.now in
    let after = c.read_chosen.new.self in
    finds_noted self.found (noting self.found c.ask.new.self) self.tallies
    (known_by self.counts self.forms) (noted self.found c.ask.new.self c.ask.ensures.are)
    (seen_of (state g.S.Store self.conn)) (λ t. Unit {0})
    (λ found t. found.items ≡ map (λ row. row.term)
    (filter (is_choice_of c.args.release.now c.args.document c.args.id.now) t.choice))
    (tallied after.found after.tallies (known_by after.counts after.forms)
    (seen_of (state g.S.Store after.conn))) (state g.S.Store self.conn) (state g.S.Store after.conn)
    c.read_chosen.result c.read_chosen.ensures

pub returns-in_ok-terms_in-in-Some : goal.returns-in_ok-terms_in-in-Some
returns-in_ok-terms_in-in-Some g c =
    let self = c.args.self.now in
    let rows = c.in-Some.rows.now.rows.items in
    noted_alone self.found (noting self.found c.ask.new.self) self.tallies
    (known_by self.counts self.forms) (noted self.found c.ask.new.self c.ask.ensures.are)
    (seen_of (state g.S.Store self.conn)) (λ t. Unit {0})
    (λ found t. found.items ≡ map (λ row. row.term)
    (filter (is_choice_of c.args.release.now c.args.document c.args.id.now) t.choice))
    (state g.S.Store self.conn) (Ok c.in_ok-terms_in-in-Some.field-0)
    (λ clean t holds. c.in_ok-terms_in-in-Some.ensures
    ∙ terms_among c.args.release.now c.args.document c.args.id.now rows t.choice
    (c.in-Some.ensures.are t (holds.3 clean).2.choices)) tt

pub returns-in-None : goal.returns-in-None
returns-in-None g c =
    let self = c.args.self.now in
    let has = noting self.found c.ask.new.self in
    let known = known_by self.counts self.forms in
    finds_noted self.found has self.tallies known
    (noted self.found c.ask.new.self c.ask.ensures.are) (seen_of (state g.S.Store self.conn))
    (λ t. Unit {0})
    (λ found t. found.items ≡ map (λ row. row.term)
    (filter (is_choice_of c.args.release.now c.args.document c.args.id.now) t.choice))
    (tallied has self.tallies known (seen_of (state g.S.Store c.chosen.new.conn)))
    (state g.S.Store self.conn) (state g.S.Store c.chosen.new.conn) c.chosen.result
    (finds g.S.Store has self.tallies known self.conn c.chosen.new.conn c.chosen.result
    c.chosen.ensures)
