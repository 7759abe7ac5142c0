use Rattle.std.proofs.Common.{rules, sym}
use Rattle.sqlite.specs.Held.{state}
use Rattle.desk_model.specs.Tables.{tables}
use Rattle.desk_sql_adopt.proofs.Spared.{kept}
use Rattle.desk_store.proofs.Bodies.{history_forms, known}
use Rattle.desk_store.proofs.Showing.{some_shown}
use Rattle.desk_store.proofs.desk.SqlDesk.adopt_connection.Goals as goal

pub returns-in-Ok-clause-rows : goal.returns-in-Ok-clause-rows
returns-in-Ok-clause-rows g c = λ w right honest t held forms.
    let old = state g.S.Store c.args.conn in
    let new = state g.S.Store c.examine_desk.new.conn in
    let clean = rw c.over.ensures.same at honest in
    let beside = c.in-Ok.ensures.kept clean t held in
    c.over.ensures.holds t (known w right t c.in-Ok.kept beside forms) beside.tallies
    ((kept old new c.in-Ok.ensures.stayed.0).spared.holds t held)

pub returns-in-Ok-clause-holds : goal.returns-in-Ok-clause-holds
returns-in-Ok-clause-holds g c = λ w right honest h ok held. returns-in-Ok-clause-rows g c w right
    honest (tables w h) held (history_forms w h)

pub returns-in-Err-clause-adopts : goal.returns-in-Err-clause-adopts
returns-in-Err-clause-adopts g c = c.in-Err.ensures.sound

pub returns-in-Ok-clause-some : goal.returns-in-Ok-clause-some
returns-in-Ok-clause-some g c = λ honest is stand w right.
    let old = state g.S.Store c.args.conn in
    let clean = rw c.over.ensures.same at honest in
    let found = some_shown old (c.in-Ok.ensures.desk clean).1 (c.schema-schema.ensures.live is).0
    (sym (c.is_autocommit-settled.ensures.settled (search rules) is))
    (c.in-Ok.ensures.passed clean is) stand c.sound_rows_are_tables.ensures w right
    (c.right_readings_list_ids.ensures w right) in
    (found.0, found.1, returns-in-Ok-clause-rows g c w right honest found.0 (λ _ _. found.1) found.2)
