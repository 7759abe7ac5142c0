use Rattle.std.proofs.Common.{Err, Ok}
use Rattle.desk_access.specs.Follows.{Follows}
use Rattle.desk_history.specs.Laws.{Ascends}
use Rattle.desk_model.specs.Keys.{release_below}
use Rattle.desk_model.specs.Tables.{applied}
use Rattle.desk_sql_lookup.proofs.LookUps.{fails_too, looks_then, then_tells}
use Rattle.desk_sql_cache.specs.Found.{AreFound}
use Rattle.desk_sql_cache.proofs.found.found_after.Goals as goal

pub returns-in_err-held-clause-looks : goal.returns-in_err-held-clause-looks
returns-in_err-held-clause-looks g c =
    let fault = c.in_err-held.field-0.0 in
    let both = looks_then g.S.Store c.args.conn.now c.adoptions_after.new.conn
    c.holders_after.new.conn (λ t. Unit {0}) c.in_ok-adopted.ensures.looks (Err fault)
    c.in_err-held.ensures.looks (λ held t. Unit {0}) (λ held t first is. tt) in
    fails_too g.S.Store c.args.conn.now c.holders_after.new.conn c.from_residual-in_err-held.result
    fault c.from_residual-in_err-held.ensures.1 _ (λ t. Unit {0}) both

pub returns-clause-looks : goal.returns-clause-looks
returns-clause-looks g c =
    let change = c.args.change.now in
    let adopted = c.in_ok-adopted.adopted in
    let kept = c.after_change.result in
    let both = looks_then g.S.Store c.args.conn.now c.adoptions_after.new.conn
    c.holders_after.new.conn (λ t. Unit {0}) c.in_ok-adopted.ensures.looks (Ok c.in_ok-held.held)
    c.in_ok-held.ensures.looks
    (λ held t. Ascends release_below (applied change t).releases → Follows change t
    → AreFound c.args.found t → AreFound
    (record { adoptions = adopted; holders = held; last = kept }) (applied change t))
    (λ held t first second up follows are.
    (first are.0, second up follows are.1, c.after_change.ensures.are change t are.2)) in
    then_tells g.S.Store c.args.conn.now c.holders_after.new.conn both (λ t. Unit {0})
    (Ok (record { adoptions = adopted; holders = c.in_ok-held.held; last = kept }))
    (λ after t. Ascends release_below (applied change t).releases → Follows change t
    → AreFound c.args.found t → AreFound after (applied change t)) both.found tt
