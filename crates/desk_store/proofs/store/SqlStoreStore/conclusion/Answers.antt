use Rattle.std.proofs.Common.{◌≡◌, ◌∙◌, Ok}
use Rattle.sqlite.specs.Held.{state}
use Rattle.desk_model.specs.Conclusions.{office_text}
use Rattle.desk_model.specs.Tables.{Tables}
use Rattle.desk_sql_layout.specs.Held.{seen_of}
use Rattle.desk_store.specs.Counting.{known_by, tallied}
use Rattle.desk_sql_cache.specs.Found.{AreFound}
use Rattle.desk_sql_cache.specs.Repeated.{AreConclusions}
use Rattle.desk_sql_cache.specs.declared.found.Found.{Found}
use Rattle.desk_sql_cache.specs.declared.repeated.Conclusions.{Conclusions}
use Rattle.desk_store.proofs.Missed.{finds, finds_noted, noted_alone}
use Rattle.desk_store.proofs.RepeatedLemmas.{office_among}
use Rattle.desk_store.proofs.store.SqlStoreStore.conclusion.Goals as goal

abbrev noting : Found → Conclusions → Found
noting had now = record had { last = record had.last { conclusions = now } }

noted : (had : Found) (now : Conclusions)
    → ((t : Tables) → AreConclusions had.last.conclusions t → AreConclusions now t) → (t : Tables)
    → AreFound had t → AreFound (noting had now) t
noted had now more t are = (
  are.0,
  are.1,
  record {
    document = are.2.document;
    rule = are.2.rule;
    conclusions = more t are.2.conclusions;
    choices = are.2.choices;
  },
)

pub returns-then-ask : goal.returns-then-ask
returns-then-ask g c =
    let self = c.args.self.now in
    let after = c.read_conclusion.new.self in
    finds_noted self.found (noting self.found c.ask.new.self) self.tallies
    (known_by self.counts self.forms) (noted self.found c.ask.new.self c.ask.ensures.are)
    (seen_of (state g.S.Store self.conn)) (λ t. Unit {0})
    (λ found t. found ≡ office_text t.conclusion c.args.document c.args.id.now)
    (tallied after.found after.tallies (known_by after.counts after.forms)
    (seen_of (state g.S.Store after.conn))) (state g.S.Store self.conn) (state g.S.Store after.conn)
    c.read_conclusion.result c.read_conclusion.ensures

pub returns-in_ok-expression_in-in-Some : goal.returns-in_ok-expression_in-in-Some
returns-in_ok-expression_in-in-Some g c =
    let self = c.args.self.now in
    let document = c.args.document in
    let rows = c.in-Some.rows.now.rows.items in
    noted_alone self.found (noting self.found c.ask.new.self) self.tallies
    (known_by self.counts self.forms) (noted self.found c.ask.new.self c.ask.ensures.are)
    (seen_of (state g.S.Store self.conn)) (λ t. Unit {0})
    (λ found t. found ≡ office_text t.conclusion document c.args.id.now)
    (state g.S.Store self.conn) (Ok c.in_ok-expression_in-in-Some.field-0)
    (λ clean t holds. c.in_ok-expression_in-in-Some.ensures
    ∙ office_among document c.args.id.now rows t.conclusion
    (c.in-Some.ensures.are t (holds.3 clean).2.conclusions)) tt

pub returns-in-None : goal.returns-in-None
returns-in-None g c =
    let self = c.args.self.now in
    let has = noting self.found c.ask.new.self in
    let known = known_by self.counts self.forms in
    finds_noted self.found has self.tallies known
    (noted self.found c.ask.new.self c.ask.ensures.are) (seen_of (state g.S.Store self.conn))
    (λ t. Unit {0}) (λ found t. found ≡ office_text t.conclusion c.args.document c.args.id.now)
    (tallied has self.tallies known (seen_of (state g.S.Store c.conclusion.new.conn)))
    (state g.S.Store self.conn) (state g.S.Store c.conclusion.new.conn) c.conclusion.result
    (finds g.S.Store has self.tallies known self.conn c.conclusion.new.conn c.conclusion.result
    c.conclusion.ensures)
