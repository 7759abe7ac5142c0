use Rattle.std.proofs.Common.{◌≡◌, false, sym, ap, subst, ◌∙◌}
use Rattle.sqlite.specs.Held.{state}
use Rattle.desk_sql_layout.specs.Desk.{HasDesk}
use Rattle.desk_sql_adopt.specs.Version.{has_version}
use Rattle.desk_sql_adopt.proofs.Contents.{content_is}
use Rattle.desk_sql_adopt.proofs.DeskColumns.{desk_has_version}
use Rattle.desk_sql_adopt.proofs.version.examine.Goals as goal

pub returns-then-not-has_version-clause-held : goal.returns-then-not-has_version-clause-held
returns-then-not-has_version-clause-held g c = λ is clean t holds.
    let shown = (state g.S.Store c.args.conn.now).now.schema in
    let none : has_version shown ≡ false =
    ap has_version (sym c.schema-schema.ensures.value) ∙ sym c.has_version.ensures
    ∙ c.if-not-has_version.true in
    absurd (let no = sym (desk_has_version shown (holds clean is).holds.rows.declared) ∙ none in cc)

pub returns-clause-found : goal.returns-clause-found
returns-clause-found g c = λ clean.
    let s = state g.S.Store c.args.conn.now in
    let schema = c.schema-schema.ensures.value in
    content_is s (sym (ap has_version schema) ∙ sym c.has_version.ensures
    ∙ c.if-not-has_version.false) c.has_desk-has_desk.result
    (λ is. subst HasDesk schema (c.has_desk-has_desk.ensures.0 is))
    (λ desk. c.has_desk-has_desk.ensures.1 (subst HasDesk (sym schema) desk)) c.content_by.result
    c.in_ok-version.field-0 c.content_by.ensures.desk c.content_by.ensures.undeclared
    c.content_by.ensures.unnamed c.content_by.ensures.none c.content_by.ensures.other
    (c.in_ok-version.ensures.told clean)
