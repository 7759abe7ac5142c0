use Rattle.std.proofs.Common.{[], ap, sym, ◌∙◌}
use Rattle.sqlite.specs.Held.{state}
use Rattle.desk_sql_adopt.specs.Version.{version_text, version_in}
use Rattle.desk_sql_adopt.proofs.Asking.{answers}
use Rattle.desk_sql_adopt.proofs.Spared.{err_read, of_shown}
use Rattle.desk_sql_adopt.proofs.Texts.{version_asked, version_asks, version_read}
use Rattle.desk_sql_layout.proofs.Causes.{err_cause}
use Rattle.desk_sql_adopt.proofs.version.version.Goals as goal

pub returns-in_err-rows-clause-read : goal.returns-in_err-rows-clause-read
returns-in_err-rows-clause-read g c =
    err_read (state g.S.Store c.args.conn.now) (state g.S.Store c.query.new.conn)
    c.from_residual.result c.from_residual.ensures.0 (c.in_err-rows.ensures.read version_asks)

pub returns-clause-told : goal.returns-clause-told
returns-clause-told g c = λ clean.
    let old = state g.S.Store c.args.conn.now in
    let new = state g.S.Store c.query.new.conn in
    let rows = c.in_ok-rows.rows.items in (
      rows,
      answers version_text [] old new version_asks rows (c.in_ok-rows.ensures.shown clean),
      sym (c.version_in.ensures ∙ ap version_in c.deref.ensures.value),
    )

pub returns-clause-shown : goal.returns-clause-shown
returns-clause-shown g c = λ clean. (
  c.in_ok-rows.rows.items,
  c.in_ok-rows.ensures.shown clean,
  sym (c.version_in.ensures ∙ ap version_in c.deref.ensures.value),
)

pub returns-clause-held : goal.returns-clause-held
returns-clause-held g c =
    let old = state g.S.Store c.args.conn.now in
    let new = state g.S.Store c.query.new.conn in
    of_shown version_text [] old new version_asks c.in_ok-rows.rows.items _
    (c.in_ok-rows.ensures.read version_asks).0 c.in_ok-rows.ensures.shown
    (λ t shown holds. c.version_in.ensures
    ∙ ap version_in (c.deref.ensures.value
    ∙ version_read old new c.in_ok-rows.rows.items t shown holds))

pub returns-clause-read : goal.returns-clause-read
returns-clause-read g c = c.in_ok-rows.ensures.read version_asks

pub returns-in_err-rows-clause-cause : goal.returns-in_err-rows-clause-cause
returns-in_err-rows-clause-cause g c = err_cause _ _ _ c.from_residual.result
    c.in_err-rows.field-0.0 c.from_residual.ensures.1 (c.in_err-rows.ensures.cause version_asked)
