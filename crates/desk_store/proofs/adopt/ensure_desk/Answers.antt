use Rattle.sqlite.specs.Held.{state}
use Rattle.desk_store.proofs.Adopted.{cause_in, desk_in, held_in, left_in, reason_in, stayed_in}
use Rattle.desk_store.proofs.adopt.ensure_desk.Goals as goal

pub returns-clause-desk : goal.returns-clause-desk
returns-clause-desk g c = λ clean. rw c.desk_of.ensures
    (desk_in (state g.S.Store c.args.conn.now) c.examine-found.result
    (c.examine-found.ensures.found clean))

pub returns-clause-held : goal.returns-clause-held
returns-clause-held g c = rw c.desk_of.ensures
    (held_in (state g.S.Store c.args.conn.now) (state g.S.Store c.examine-found.new.conn)
    c.examine-found.result c.examine-found.ensures.held)

pub returns-clause-reason : goal.returns-clause-reason
returns-clause-reason g c = λ clean. rw c.desk_of.ensures
    (reason_in (state g.S.Store c.args.conn.now) c.examine-found.result
    (c.examine-found.ensures.found clean) c.examine-found.ensures.refused)

pub returns-clause-stayed : goal.returns-clause-stayed
returns-clause-stayed g c = rw c.desk_of.ensures
    (stayed_in (state g.S.Store c.args.conn.now) (state g.S.Store c.examine-found.new.conn)
    c.examine-found.result c.examine-found.ensures.read)

pub returns-clause-left : goal.returns-clause-left
returns-clause-left g c = rw c.desk_of.ensures
    (left_in (state g.S.Store c.args.conn.now) (state g.S.Store c.examine-found.new.conn)
    c.examine-found.result c.examine-found.ensures.read)

pub returns-clause-cause : goal.returns-clause-cause
returns-clause-cause g c = rw c.desk_of.ensures
    (cause_in (state g.S.Store c.args.conn.now) (state g.S.Store c.examine-found.new.conn)
    c.examine-found.result c.examine-found.ensures.held c.examine-found.ensures.cause)
