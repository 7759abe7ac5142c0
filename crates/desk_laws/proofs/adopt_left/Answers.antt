use Rattle.std.proofs.lemmas.Result.{IfErr-weaker, IfOk-weaker}
use Rattle.sqlite.specs.Held.{state}
use Rattle.desk_model.specs.Tables.{tables}
use Rattle.desk_laws.proofs.Secured.{secure_stayed}
use Rattle.desk_laws.proofs.adopt_left.Goals as goal

pub returns-clause-holds : goal.returns-clause-holds
returns-clause-holds g c = λ w left h right ok opened stands.
    IfOk-weaker c.adopt_connection.result _ _
    (λ desk at clean. at w right clean h ok
    (c.what_a_stop_leaves_opens_again.ensures left (tables w h) opened stands))
    c.adopt_connection.ensures.holds

pub returns-clause-adopts : goal.returns-clause-adopts
returns-clause-adopts g c = λ w left h right ok opened stands.
    IfErr-weaker c.adopt_connection.result _ _
    (λ e at clean. at opened.opens.is_open w right clean h ok
    (c.what_a_stop_leaves_opens_again.ensures left (tables w h) opened stands))
    c.adopt_connection.ensures.adopts

pub returns-clause-secures : goal.returns-clause-secures
returns-clause-secures g c = λ w left h right ok opened stands secure.
    IfOk-weaker c.adopt_connection.result _ _
    (λ desk stayed clean.
    let s = secure_stayed (state g.S.Store c.args.conn) (state g.S.Store desk.desk.store.conn)
    stayed clean (tables w h) secure in
    record { is_open = s.is_open; leaves = s.leaves })
    c.adopt_connection.ensures.stayed
