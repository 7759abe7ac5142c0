-- A migration of tables whose rows are in the order of their rowids shows some tables.
use Rattle.std.proofs.Common.{◌≡◌, ℕ, true, List, [], ◌∷◌, map}
use Rattle.std.specs.Prelude.{◌==◌, if◌then◌else◌}
use Rattle.std.specs.List.{AllByRecursion}
use Rattle.std.proofs.lemmas.List.Sorted.{IsPermutation-refl}
use Rattle.sqlite_value.specs.Order.{Row}
use Rattle.sqlite_trees.specs.Tree.{IsTable, rowid}
use Rattle.sqlite_trees.specs.View.{is_int}
use Rattle.sqlite_schema.specs.declared.schema.Table.{Table}
use Rattle.sqlite.specs.Effect.{Database, IsDatabase}
use Rattle.sqlite.specs.State.{State}
use Rattle.desk_model.specs.Readings.{Readings}
use Rattle.desk_model.specs.Tables.{Tables}
use Rattle.desk_snapshot.specs.Reports.{IsReport}
use Rattle.desk_snapshot.specs.declared.fault.AuditReport.TheVariants.{Sound}
use Rattle.desk_snapshot.specs.declared.snapshot.Snapshot.{Snapshot}
use Rattle.desk_sql_layout.specs.Held.{HasRows, Showing, labelled}
use Rattle.desk_sql_layout.specs.Layout as d
use Rattle.desk_sql_layout.specs.Stored.{AreStored, cells}
use Rattle.desk_sql_adopt.specs.Older.{HasOlder, migrated, older_tables}
use Rattle.desk_sql_adopt.specs.declared.older.OlderVersion.{OlderVersion}
use Rattle.desk_sql_adopt.specs.declared.older.OlderVersion.TheVariants.{One, Two}
use Rattle.desk_sql_migrate.specs.Migrating.{Migrated}
use Rattle.desk_sql_migrate.specs.Steps.{Becomes}
use Rattle.desk_beside.specs.Beside.{HasNumbers}
use Rattle.desk_beside.specs.Shown.{AreShown, HaveOwnSteps}
use Rattle.desk_history_laws.specs.Ids.{ListsIds}
use Rattle.desk_texts.specs.Right.{AreRight}
use Rattle.desk_store.specs.Adopting.{AreOlderTables, HasForms}
use Rattle.desk_store.proofs.Showing.{some_shown}

-- the rows of the first of these tables that has this tree
abbrev rows_in : List Table → Database → ℕ → List Row
rows_in [] db tree = []
rows_in (t ∷ ts) db tree =
    if t.tree == tree then map (cells t) (labelled db tree) else rows_in ts db tree

kept_rows : (t : Table) (db : Database)
    → IsTable (labelled db t.tree) × AllByRecursion (λ r. is_int (rowid r) ≡ true) (labelled db t.tree)
    → AreStored t (map (cells t) (labelled db t.tree)) (labelled db t.tree)
kept_rows t db stand = record {
  rising = stand.0;
  keyed = stand.1;
  same = IsPermutation-refl (map (cells t) (labelled db t.tree));
}

older_stored : (version : OlderVersion) (db : Database) → AreOlderTables version (labelled db)
    → AllByRecursion (λ t. AreStored t (rows_in (older_tables version) db t.tree) (labelled db t.tree))
    (older_tables version)
older_stored One db (meta, (catalogue, (rule, (document, (packages, (extracted, (conclusion, (adoption, (releases, (attached, (choice, (frozen, (duty, (change, end)))))))))))))) =
    (kept_rows d.meta_table db meta, (kept_rows d.catalogue_table db catalogue, (kept_rows d.rule_table db rule, (kept_rows d.document_table db document, (kept_rows d.package_table db packages, (kept_rows d.extracted_table db extracted, (kept_rows d.conclusion_table db conclusion, (kept_rows d.adoption_table db adoption, (kept_rows d.releases_table db releases, (kept_rows d.attached_table db attached, (kept_rows d.choice_table db choice, (kept_rows d.frozen_table db frozen, (kept_rows d.duty_table db duty, (kept_rows d.change_table db change, tt))))))))))))))
older_stored Two db (meta, (catalogue, (rule, (document, (packages, (extracted, (conclusion, (adoption, (releases, (attached, (choice, (frozen, (duty, (change, (reading, end))))))))))))))) =
    (kept_rows d.meta_table db meta, (kept_rows d.catalogue_table db catalogue, (kept_rows d.rule_table db rule, (kept_rows d.document_table db document, (kept_rows d.package_table db packages, (kept_rows d.extracted_table db extracted, (kept_rows d.conclusion_table db conclusion, (kept_rows d.adoption_table db adoption, (kept_rows d.releases_table db releases, (kept_rows d.attached_table db attached, (kept_rows d.choice_table db choice, (kept_rows d.frozen_table db frozen, (kept_rows d.duty_table db duty, (kept_rows d.change_table db change, (kept_rows d.reading_table db reading, tt)))))))))))))))

stand_after : (ts : List Table) (rows trees : ℕ → List Row)
    → AllByRecursion (λ t. AreStored t (rows t.tree) (trees t.tree)) ts
    → AllByRecursion (λ t. IsTable (trees t.tree)
    × AllByRecursion (λ r. is_int (rowid r) ≡ true) (trees t.tree)) ts
stand_after [] rows trees all = tt
stand_after (t ∷ ts) rows trees (one, more) =
    ((one.rising, one.keyed), stand_after ts rows trees more)

rows_after : (version : OlderVersion) (old new : Database) → HasOlder version old.schema
    → IsDatabase old → AreOlderTables version (labelled old) → Becomes version old new
    → HasRows (migrated version (rows_in (older_tables version) old)) new
rows_after version old new declared database stand becomes =
    becomes (rows_in (older_tables version) old) record {
      declared = declared;
      stored = older_stored version old stand;
      sound = database;
    }

-- a connection that shows migrated rows shows some tables
pub some_migrated : (version : OlderVersion) (old new : State) → HasOlder version old.now.schema
    → IsDatabase old.now → AreOlderTables version (labelled old.now) → Migrated version old new
    → ((w : Readings) (rows : Snapshot) → IsReport w rows Sound → HasNumbers rows
    → HaveOwnSteps rows → (t : Tables) × AreShown w rows t)
    → (w : Readings) → AreRight w → ListsIds w → (t : Tables) × Showing new t × HasForms w t
some_migrated version old new declared database stand made law w right ids =
    let rows = rows_after version old.now new.now declared database stand made.rows in
    some_shown new rows.declared rows.sound made.settled made.sound
    (stand_after d.desk_schema.tables (migrated version (rows_in (older_tables version) old.now))
    (labelled new.now) rows.stored) law w right ids
