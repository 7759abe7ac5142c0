use Rattle.std.proofs.Common.{◌∙◌, ap, sym}
use Rattle.desk_model.specs.Tables.{tables}
use Rattle.desk_sql_adopt.proofs.DeskColumns.{desk_has_columns}
use Rattle.desk_sql_adopt.specs.Columns.{has_columns}
use Rattle.desk_snapshot.specs.Tables.{snapshot_of}
use Rattle.desk_sql_migrate.proofs.Ends.{is_sound_as}
use Rattle.desk_store.proofs.audit.audit_connection.Goals as goal

pub returns-clause-told : goal.returns-clause-told
returns-clause-told g c = λ clean declared. (
  c.in_ok-snapshot.snapshot,
  c.in_ok-snapshot.ensures.raw clean declared,
  λ w right. c.in_ok-judge.ensures w right,
)

pub returns-clause-sound : goal.returns-clause-sound
returns-clause-sound g c = λ w right honest h ok held.
    let sorted = c.listed_tables_are_sorted.ensures w h
    (c.right_readings_list_in_order.ensures w right) in
    is_sound_as w c.in_ok-snapshot.snapshot (snapshot_of (tables w h)) c.in_ok-judge.field-0
    ((c.in_ok-snapshot.ensures.found honest (tables w h) held).listed sorted)
    (c.histories_are_sound.ensures w h right ok) (c.in_ok-judge.ensures w right)

pub returns-then-not-has_columns-clause-cause : goal.returns-then-not-has_columns-clause-cause
returns-then-not-has_columns-clause-cause g c = record {
  cause = λ clean opened unlimited t holds written is.
      let none = ap has_columns (sym c.schema.ensures.value) ∙ sym c.has_columns.ensures
      ∙ c.if-not-has_columns.true in
      absurd (let no = sym (desk_has_columns _ (holds clean opened).holds.rows.declared) ∙ none
      in cc);
}
