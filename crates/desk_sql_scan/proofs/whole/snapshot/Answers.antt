use Rattle.std.proofs.Common.{rules}
use Rattle.std.proofs.lemmas.Result.{IfOk-weaker}
use Rattle.desk_sql_layout.proofs.Clean.{clean_before}
use Rattle.sqlite.specs.Held.{state}
use Rattle.desk_sql_scan.proofs.Asked.{read_outside}
use Rattle.desk_sql_scan.proofs.Causes.{asked_clean, scan_cause}
use Rattle.desk_sql_scan.proofs.whole.snapshot.Goals as goal

pub returns-clause-raw : goal.returns-clause-raw
returns-clause-raw g c = λ clean has. IfOk-weaker c.read_whole.result _ _ (λ s it. it.raw clean has)
    c.read_whole.ensures.ok

pub returns-clause-found : goal.returns-clause-found
returns-clause-found g c = IfOk-weaker c.read_whole.result _ _
    (λ s it. λ clean t shows. it.found clean t
    (shows (clean_before _ _ (λ _. ⊥) it.survives clean) (it.same clean).0.was_open).holds)
    c.read_whole.ensures.ok

pub returns-clause-read : goal.returns-clause-read
returns-clause-read g c =
    read_outside (state g.S.Store c.args.conn.now) (state g.S.Store c.read_whole.new.source)
    c.read_whole.result (c.is_autocommit-settled.ensures.settled (search rules))
    c.read_whole.ensures.asked

pub returns-clause-cause : goal.returns-clause-cause
returns-clause-cause g c =
    let old = state g.S.Store c.args.conn.now in
    let new = state g.S.Store c.read_whole.new.source in
    scan_cause old new (asked_clean old new c.read_whole.result c.read_whole.ensures.asked)
    c.read_whole.result c.read_whole.ensures.cause
