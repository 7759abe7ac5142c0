-- A database that has a snapshot's rows holds them as cells, if the rows of its tables are in the
-- order of their rowids.
use Rattle.std.proofs.Common.{◌≡◌, true, List, map, IsPermutation}
use Rattle.std.specs.List.{AllByRecursion}
use Rattle.sqlite_value.specs.Order.{Row}
use Rattle.sqlite_trees.specs.Tree.{IsTable, rowid}
use Rattle.sqlite_trees.specs.View.{is_int}
use Rattle.sqlite_schema.specs.declared.schema.Table.{Table}
use Rattle.sqlite.specs.Effect.{Database, IsDatabase}
use Rattle.desk_sql_layout.specs.Desk.{HasDesk}
use Rattle.desk_sql_layout.specs.Held.{HasRows, labelled}
use Rattle.desk_sql_layout.specs.Layout as d
use Rattle.desk_sql_layout.specs.Stored.{cells, AreStored}
use Rattle.desk_snapshot.specs.declared.snapshot.Snapshot.{Snapshot}
use Rattle.desk_sql_scan.specs.Scans.{AreTables, IsSnapshot, stored_rows}

it_is : (table : Table) (rows stored : List Row)
    → IsTable stored × AllByRecursion (λ r. is_int (rowid r) ≡ true) stored
    → IsPermutation rows (map (cells table) stored) → AreStored table rows stored
it_is table rows stored stand shown = record { rising = stand.0; keyed = stand.1; same = shown }

pub has_rows : (s : Snapshot) (db : Database) → HasDesk db.schema → IsDatabase db
    → AreTables d.desk_schema (labelled db) → IsSnapshot s db → HasRows (stored_rows s) db
has_rows s db declared sound (meta, (catalogue, (rule, (document, (packages, (extracted, (conclusion, (adoption, (releases, (attached, (choice, (frozen, (duty, (changes, (reading, (waiver, end)))))))))))))))) it = record {
  declared = declared;
  sound = sound;
  stored = (it_is d.meta_table _ _ meta it.meta.shown, (it_is d.catalogue_table _ _ catalogue it.catalogue.shown, (it_is d.rule_table _ _ rule it.rule.shown, (it_is d.document_table _ _ document it.document.shown, (it_is d.package_table _ _ packages it.packages.shown, (it_is d.extracted_table _ _ extracted it.extracted.shown, (it_is d.conclusion_table _ _ conclusion it.conclusion.shown, (it_is d.adoption_table _ _ adoption it.adoption.shown, (it_is d.releases_table _ _ releases it.releases.shown, (it_is d.attached_table _ _ attached it.attached.shown, (it_is d.choice_table _ _ choice it.choice.shown, (it_is d.frozen_table _ _ frozen it.frozen.shown, (it_is d.duty_table _ _ duty it.duty.shown, (it_is d.change_table _ _ changes it.changes.shown, (it_is d.reading_table _ _ reading it.reading.shown, (it_is d.waiver_table _ _ waiver it.waiver.shown, tt))))))))))))))));
}
