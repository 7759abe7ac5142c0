-- A migration, step after step.
use Rattle.std.proofs.Common.{ℕ, List, Ok, Err, Result, subst, append-nil}
use Rattle.std.specs.Prelude.{◌==◌, if◌then◌else◌}
use Rattle.sqlite_value.specs.Order.{Row}
use Rattle.sqlite.specs.Effect.{Database}
use Rattle.sqlite.specs.State.{State}
use Rattle.desk_model.specs.declared.command.Fault.{Fault}
use Rattle.desk_sql_layout.specs.Layout.{desk_schema}
use Rattle.desk_sql_adopt.specs.Older.{HasOlder, first_readings, migrated, older_tables}
use Rattle.desk_sql_adopt.specs.declared.older.OlderVersion.{OlderVersion}
use Rattle.desk_sql_adopt.specs.declared.older.OlderVersion.TheVariants.{One, Two}
use Rattle.desk_sql_migrate.specs.Steps.{Gained, Gains, HaveRows, IfDone, IsWith, Upgraded, Upgrades}
use Rattle.desk_sql_migrate.specs.Steps.{with_no_readings, with_no_waivers, with_readings}
use Rattle.desk_sql_migrate.specs.Steps.{with_version, without_version}
use Rattle.desk_sql_migrate.proofs.Rows.{has_desk}

abbrev from_second : (ℕ → List Row) → ℕ → List Row
from_second rows = with_version (without_version (with_no_waivers rows))

abbrev from_first : (ℕ → List Row) → ℕ → List Row
from_first rows = with_version
    (without_version (with_readings (with_no_waivers (with_no_readings rows))))

second_is : (rows : ℕ → List Row) (db : Database)
    → HaveRows desk_schema.tables (from_second rows) db
    → HaveRows desk_schema.tables (migrated Two rows) db
second_is rows db has = has

first_is : (rows : ℕ → List Row) (db : Database)
    → HaveRows desk_schema.tables (from_first rows) db
    → HaveRows desk_schema.tables (migrated One rows) db
first_is rows db has = subst (λ readings. HaveRows desk_schema.tables
    (λ tree. if tree == 27 then readings else migrated One rows tree) db)
    (append-nil (first_readings (rows 4))) has

module _ (version : OlderVersion) (from : (ℕ → List Row) → ℕ → List Row)
    (is : (rows : ℕ → List Row) (db : Database) → HaveRows desk_schema.tables (from rows) db
    → HaveRows desk_schema.tables (migrated version rows) db) (old new : State) where
  upgraded : (r : Result (Unit {0}) Fault)
      → IfDone (Gained (older_tables version) desk_schema.tables from) old new r
      → IfDone (Upgraded version) old new r
  unfolding HasOlder
  upgraded (Ok done) it = λ clean inside.
      let g = it clean inside in
      record {
        was_open = g.was_open;
        inside = g.inside;
        kept = g.kept;
        declared = λ has sound. has_desk new.now.schema
            (g.has (record { declared = has; sound = sound })).declared;
        rows = λ rows has.
            let given : IsWith (older_tables version) old.now = record {
              declared = has.declared;
              sound = has.sound;
            } in
            let after = g.has given in record {
              declared = has_desk new.now.schema after.declared;
              stored = is rows new.now (g.rows given rows has.stored);
              sound = after.sound;
            };
      }
  upgraded (Err fault) it = it

pub second_upgraded : {old new : State} (r : Result (Unit {0}) Fault)
    → Gains (older_tables Two) desk_schema.tables from_second old new r → Upgrades Two old new r
second_upgraded {old} {new} r it = record {
  done = upgraded Two from_second second_is old new r it.done;
  survives = it.survives;
}

pub first_upgraded : {old new : State} (r : Result (Unit {0}) Fault)
    → Gains (older_tables One) desk_schema.tables from_first old new r → Upgrades One old new r
first_upgraded {old} {new} r it = record {
  done = upgraded One from_first first_is old new r it.done;
  survives = it.survives;
}
