use Rattle.std.proofs.Common.{Err, Ok, subst, sym}
use Rattle.desk_access.specs.Follows.{Follows}
use Rattle.desk_history.specs.Laws.{Ascends}
use Rattle.desk_model.specs.Keys.{release_below}
use Rattle.desk_model.specs.Tables.{applied}
use Rattle.desk_sql_lookup.proofs.LookUps.{fails_any, fails_too, looks_then, then_tells}
use Rattle.desk_sql_cache.specs.Found.{AreFound}
use Rattle.desk_sql_cache.specs.declared.found.Found.{Found}
use Rattle.desk_tally.specs.Kept.{AreKept, LeadsTo}
use Rattle.desk_store.proofs.store.SqlStore.prepare.Goals as goal

pub returns-in_err-found-clause-looks : goal.returns-in_err-found-clause-looks
returns-in_err-found-clause-looks g c =
    let self = c.args.self.now in
    fails_any g.S.Store self.conn c.found_after.new.conn c.from_residual.result
    c.in_err-found.field-0.0 c.from_residual.ensures.1 _
    (λ t. AreKept self.tallies t × Follows c.args.change.now t) c.in_err-found.ensures.looks

pub returns-in_err-step-clause-looks : goal.returns-in_err-step-clause-looks
returns-in_err-step-clause-looks g c =
    let self = c.args.self.now in
    let fault = c.in_err-step.field-0.0 in
    let both = looks_then g.S.Store self.conn c.found_after.new.conn c.plan.new.self.conn
    (λ t. AreKept self.tallies t × Follows c.args.change.now t) c.in_ok-found.ensures.looks (Err fault)
    c.in_err-step.ensures.looks
    (λ step t. Unit {0}) (λ step t first second. tt) in
    fails_too g.S.Store self.conn c.plan.new.self.conn c.from_residual-in_err-step.result fault
    c.from_residual-in_err-step.ensures.1 _
    (λ t. AreKept self.tallies t × Follows c.args.change.now t) both

pub returns-clause-looks : goal.returns-clause-looks
returns-clause-looks g c =
    let self = c.args.self.now in
    let change = c.args.change.now in
    let found = c.in_ok-found.found in
    let step = c.in_ok-step.step in
    let tallies = c.plan.new.self.tallies in
    let both = looks_then g.S.Store self.conn c.found_after.new.conn c.plan.new.self.conn
    (λ t. AreKept self.tallies t × Follows change t) c.in_ok-found.ensures.looks (Ok step)
    c.in_ok-step.ensures.looks
    (λ step t. Ascends release_below (applied change t).releases
    → (AreKept self.tallies t → LeadsTo step tallies (applied change t))
    × (Follows change t → AreFound self.found t → AreFound found (applied change t)))
    (λ step t first second up. (
      second up,
      λ follows are. first up follows
          (subst (λ (had : Found). AreFound had t) (sym c.take-known.ensures.taken) are),
    )) in
    then_tells g.S.Store self.conn c.plan.new.self.conn both
    (λ t. AreKept self.tallies t × Follows change t) (Ok (record { found = found; step = step }))
    (λ made t. Ascends release_below (applied change t).releases
    → (AreKept self.tallies t → LeadsTo made.step tallies (applied change t))
    × (Follows change t → AreFound self.found t → AreFound made.found (applied change t)))
    both.found tt
