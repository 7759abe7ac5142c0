use Rattle.std.proofs.Common.{◌≡◌, [], ◌∷◌, pos, false, Some, refl, sym, ap, subst, ◌∙◌}
use Rattle.std.specs.Bool.{Decides}
use Rattle.sqlite_schema.specs.declared.schema.Schema.{Schema}
use Rattle.sqlite.specs.Held.{state}
use Rattle.desk_sql_layout.specs.Cells.{number}
use Rattle.desk_sql_adopt.specs.Older.{HasOlder, declares, older_rows, version_number}
use Rattle.desk_sql_adopt.specs.declared.older.OlderVersion.TheVariants.{One, Two}
use Rattle.desk_sql_adopt.specs.Version.{has_version, version_in}
use Rattle.desk_sql_adopt.proofs.Olders.{decides_each, older_has_version, older_is, version_shown}
use Rattle.desk_sql_adopt.proofs.older.examine_older.Goals as goal

pub returns-then-not-has_version-clause-held : goal.returns-then-not-has_version-clause-held
returns-then-not-has_version-clause-held g c = λ clean is version t holds.
    let shown = (state g.S.Store c.args.conn.now).now.schema in
    let none : has_version shown ≡ false =
    ap has_version (sym c.schema-schema.ensures.value) ∙ sym c.has_version.ensures
    ∙ c.if-not-has_version.true in
    absurd (let no = sym (older_has_version version shown holds.rows.declared) ∙ none in cc)

pub returns-clause-found : goal.returns-clause-found
returns-clause-found g c = λ clean.
    let s = state g.S.Store c.args.conn.now in
    let schema = c.schema-schema.ensures.value in
    let first = c.has_first-first.result in
    let second = c.has_second-second.result in
    older_is s (declares first second)
    (decides_each s.now.schema first second
    (subst (λ (x : Schema). Decides first (HasOlder One x)) schema
    c.has_first-first.ensures)
    (subst (λ (x : Schema). Decides second (HasOlder Two x)) schema
    c.has_second-second.ensures)) c.content_by.result
    (sym (ap has_version schema) ∙ sym c.has_version.ensures ∙ c.if-not-has_version.false)
    c.in_ok-told.told c.content_by.ensures.untold c.content_by.ensures.older
    c.content_by.ensures.bare c.content_by.ensures.other (c.in_ok-told.ensures.told clean)

pub returns-clause-held : goal.returns-clause-held
returns-clause-held g c = λ clean is version t holds.
    let old = state g.S.Store c.args.conn.now in
    let new = state g.S.Store c.version.new.conn in
    let first = c.has_first-first.result in
    let second = c.has_second-second.result in
    let schema = c.schema-schema.ensures.value in
    let o = c.in_ok-told.ensures.shown clean in
    let rows = version_shown version (older_rows version t) (number (version_number version) ∷ [])
    old new o.0 refl holds.rows o.1 in
    let told : c.in_ok-told.told ≡ Some (pos (version_number version)) = sym o.2
    ∙ ap version_in rows in
    c.content_by.ensures.older version told
    ((decides_each c.schema-schema.result.now first second c.has_first-first.ensures
    c.has_second-second.ensures version).1
    (subst (HasOlder version) (sym schema) holds.rows.declared))
