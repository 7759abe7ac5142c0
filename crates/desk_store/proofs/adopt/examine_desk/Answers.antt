use Rattle.sqlite.specs.Held.{state}
use Rattle.desk_access.specs.Seen.{OfRows}
use Rattle.desk_beside.specs.Beside.{IsBeside}
use Rattle.desk_model.specs.Tables.{tables}
use Rattle.desk_sql_adopt.proofs.Spared.{kept}
use Rattle.desk_sql_layout.proofs.Clean.{clean_before}
use Rattle.desk_store.specs.Causes.{AreRecorded}
use Rattle.desk_store.proofs.Adopting.{any_adopts, err_adopts_after}
use Rattle.desk_store.proofs.Vetted.{kept_after, left_after, passed_after, reason_after, stayed_after, stayed_now, survived}
use Rattle.desk_store.proofs.adopt.examine_desk.Goals as goal

pub returns-in-Err-clause-sound : goal.returns-in-Err-clause-sound
returns-in-Err-clause-sound g c = λ is w right honest h ok held. c.in-Err.ensures.held is honest
    (tables w h) held

pub returns-in-Ok-clause-kept : goal.returns-in-Ok-clause-kept
returns-in-Ok-clause-kept g c =
    kept_after (state g.S.Store c.args.conn.now) (state g.S.Store c.ensure_desk.new.conn)
    (state g.S.Store c.read_sound.new.conn) c.read_sound.result c.in-Ok.ensures.stayed
    c.read_sound.ensures.kept

pub returns-in-Ok-clause-passed : goal.returns-in-Ok-clause-passed
returns-in-Ok-clause-passed g c = λ clean is.
    let old = state g.S.Store c.args.conn.now in
    let between = state g.S.Store c.ensure_desk.new.conn in
    let new = state g.S.Store c.read_sound.new.conn in
    let before = clean_before between new (λ _. ⊥)
    (survived between new c.read_sound.result c.read_sound.ensures.stayed
    c.read_sound.ensures.left) clean in
    passed_after old between c.read_sound.result (c.in-Ok.ensures.desk before)
    (stayed_now old between c.in-Ok.ensures.stayed before is) (c.read_sound.ensures.passed clean)

pub returns-in-Ok-clause-reason : goal.returns-in-Ok-clause-reason
returns-in-Ok-clause-reason g c = λ clean.
    let old = state g.S.Store c.args.conn.now in
    let between = state g.S.Store c.ensure_desk.new.conn in
    let new = state g.S.Store c.read_sound.new.conn in
    let before = clean_before between new (λ _. ⊥)
    (survived between new c.read_sound.result c.read_sound.ensures.stayed
    c.read_sound.ensures.left) clean in
    reason_after old between c.read_sound.result (c.in-Ok.ensures.desk before)
    (stayed_now old between c.in-Ok.ensures.stayed before)
    c.read_sound.ensures.only (c.read_sound.ensures.told clean)

pub returns-in-Ok-clause-left : goal.returns-in-Ok-clause-left
returns-in-Ok-clause-left g c =
    left_after (state g.S.Store c.args.conn.now) (state g.S.Store c.ensure_desk.new.conn)
    (state g.S.Store c.read_sound.new.conn) c.read_sound.result
    c.in-Ok.ensures.stayed c.read_sound.ensures.left

pub returns-in-Ok-clause-stayed : goal.returns-in-Ok-clause-stayed
returns-in-Ok-clause-stayed g c =
    stayed_after (state g.S.Store c.args.conn.now) (state g.S.Store c.ensure_desk.new.conn)
    (state g.S.Store c.read_sound.new.conn) c.read_sound.result
    c.in-Ok.ensures.stayed c.read_sound.ensures.stayed

pub returns-in-Ok-clause-cause : goal.returns-in-Ok-clause-cause
returns-in-Ok-clause-cause g c =
    let old = state g.S.Store c.args.conn.now in
    let between = state g.S.Store c.ensure_desk.new.conn in
    let new = state g.S.Store c.read_sound.new.conn in
    let honest = clean_before between new (λ _. ⊥)
    (survived between new c.read_sound.result c.read_sound.ensures.stayed
    c.read_sound.ensures.left) in
    err_adopts_after AreRecorded old between new c.in-Ok.ensures.stayed honest c.read_sound.result
    c.read_sound.ensures.cause

pub returns-in-Err-clause-cause : goal.returns-in-Err-clause-cause
returns-in-Err-clause-cause g c = any_adopts AreRecorded _ _ _ c.in-Err.ensures.cause
