use Rattle.sqlite.specs.Held.{state}
use Rattle.desk_store.proofs.Adopted.{cause_of, kept_of, left_of, only_of, passed_of, sound_of, stayed_of, told_of}
use Rattle.desk_store.proofs.adopt.read_sound.Goals as goal

pub returns-clause-kept : goal.returns-clause-kept
returns-clause-kept g c = rw c.adoption_of.ensures
    (kept_of (state g.S.Store c.args.conn.now) (state g.S.Store c.audit_desk-found.new.conn)
    c.audit_desk-found.result c.audit_desk-found.ensures.kept)

pub returns-clause-sound : goal.returns-clause-sound
returns-clause-sound g c = rw c.adoption_of.ensures
    (sound_of (state g.S.Store c.args.conn.now) (state g.S.Store c.audit_desk-found.new.conn)
    c.audit_desk-found.result c.audit_desk-found.ensures.sound)

pub returns-clause-only : goal.returns-clause-only
returns-clause-only g c = rw c.adoption_of.ensures (only_of c.audit_desk-found.result)

pub returns-clause-told : goal.returns-clause-told
returns-clause-told g c = λ clean declared. rw c.adoption_of.ensures
    (told_of (state g.S.Store c.args.conn.now) c.audit_desk-found.result
    (c.audit_desk-found.ensures.told clean declared))

pub returns-clause-passed : goal.returns-clause-passed
returns-clause-passed g c = λ clean declared. rw c.adoption_of.ensures
    (passed_of (state g.S.Store c.args.conn.now) c.audit_desk-found.result
    (c.audit_desk-found.ensures.told clean declared))

pub returns-clause-stayed : goal.returns-clause-stayed
returns-clause-stayed g c = rw c.adoption_of.ensures
    (stayed_of (state g.S.Store c.args.conn.now) (state g.S.Store c.audit_desk-found.new.conn)
    c.audit_desk-found.result c.audit_desk-found.ensures.read)

pub returns-clause-left : goal.returns-clause-left
returns-clause-left g c = rw c.adoption_of.ensures
    (left_of (state g.S.Store c.args.conn.now) (state g.S.Store c.audit_desk-found.new.conn)
    c.audit_desk-found.result c.audit_desk-found.ensures.read)

pub returns-clause-cause : goal.returns-clause-cause
returns-clause-cause g c = rw c.adoption_of.ensures
    (cause_of (state g.S.Store c.args.conn.now) (state g.S.Store c.audit_desk-found.new.conn)
    c.audit_desk-found.result c.audit_desk-found.ensures.sound c.audit_desk-found.ensures.cause)
