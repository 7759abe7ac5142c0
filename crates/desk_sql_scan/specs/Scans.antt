-- What it means that a snapshot has the rows of a database's tables.
use Rattle.std.specs.Prelude.{◌≡◌, ◌==◌, ℕ, false, true, if◌then◌else◌, List, [], map}
use Rattle.std.specs.List.{AllByRecursion}
use Rattle.std.specs.List.Sorted.{IsPermutation}
use Rattle.std.specs.Ordering.{is_lt}
use Rattle.std.specs.declared.cmp.Ordering.{Ordering}
use Rattle.sqlite_value.specs.Order.{Row}
use Rattle.sqlite_trees.specs.Tree.{Trees, IsAscending, IsTable, rowid}
use Rattle.sqlite_trees.specs.View.{is_int}
use Rattle.sqlite_schema.specs.declared.schema.Table.{Table}
use Rattle.sqlite_schema.specs.declared.schema.Schema.{Schema}
use Rattle.sqlite.specs.Effect.{Database}
use Rattle.sqlite.specs.State.{State, HasCleanDisk, IsUnchanged, Shown, Survives}
use Rattle.desk_sql_layout.specs.Desk.{HasDesk}
use Rattle.desk_sql_layout.specs.Held.{Holds, labelled}
use Rattle.desk_sql_layout.specs.Layout.{meta_table, catalogue_table, rule_table}
use Rattle.desk_sql_layout.specs.Layout.{document_table, package_table, extracted_table}
use Rattle.desk_sql_layout.specs.Layout.{conclusion_table, adoption_table, releases_table}
use Rattle.desk_sql_layout.specs.Layout.{attached_table, choice_table, frozen_table, duty_table}
use Rattle.desk_sql_layout.specs.Layout.{change_table, reading_table, waiver_table}
use Rattle.desk_sql_layout.specs.Stored.{cells}
use Rattle.desk_model.specs.Tables.{Tables}
use Rattle.desk_snapshot.specs.Orders.{reading_order, package_order, conclusion_order}
use Rattle.desk_snapshot.specs.Orders.{release_order, attached_order, choice_order, frozen_order}
use Rattle.desk_snapshot.specs.Orders.{change_order, waiver_order}
use Rattle.desk_snapshot.specs.declared.snapshot.Snapshot.{Snapshot}
use Rattle.desk_sql_scan.specs.Cells.{columns_of, stored_meta_cells, stored_catalogue_cells}
use Rattle.desk_sql_scan.specs.Cells.{stored_rule_cells, stored_document_cells}
use Rattle.desk_sql_scan.specs.Cells.{stored_reading_cells, stored_package_cells}
use Rattle.desk_sql_scan.specs.Cells.{stored_extracted_cells, stored_conclusion_cells}
use Rattle.desk_sql_scan.specs.Cells.{stored_adoption_cells, stored_release_cells}
use Rattle.desk_sql_scan.specs.Cells.{stored_attached_cells, stored_choice_cells}
use Rattle.desk_sql_scan.specs.Cells.{stored_frozen_cells, stored_duty_cells, stored_change_cells}
use Rattle.desk_sql_scan.specs.Cells.{stored_waiver_cells}
use Rattle.desk_sql_scan.specs.Orders.{meta_order, catalogue_order, rule_order, document_order}
use Rattle.desk_sql_scan.specs.Orders.{extracted_order, adoption_order, duty_order}

-- no row comes after one that it should come before
abbrev pub IsInOrder : {A : Type 0} → (A → A → Ordering) → List A → Type 0
IsInOrder order = IsAscending (λ a b. is_lt (order b a) ≡ false)

-- These are all rows of a table, in the order of its key.
pub record IsScan {A : Type 0} (table : Table) (cells_of : A → Row) (order : A → A → Ordering)
    (rows : List A) (db : Database) : Type 0 where
  pub shown : IsPermutation (map cells_of rows) (map (cells table) (labelled db table.tree))
  pub ordered : IsInOrder order rows

-- the database's tables have these rows, each in the order of its table's key
pub record IsSnapshot (s : Snapshot) (db : Database) : Type 0 where
  pub meta : IsScan meta_table stored_meta_cells meta_order s.meta db
  pub catalogue : IsScan catalogue_table stored_catalogue_cells catalogue_order s.catalogue db
  pub rule : IsScan rule_table stored_rule_cells rule_order s.rule db
  pub document : IsScan document_table stored_document_cells document_order s.document db
  pub reading : IsScan reading_table stored_reading_cells reading_order s.reading db
  pub packages : IsScan package_table stored_package_cells package_order s.packages db
  pub extracted : IsScan extracted_table stored_extracted_cells extracted_order s.extracted db
  pub conclusion : IsScan conclusion_table stored_conclusion_cells conclusion_order s.conclusion db
  pub adoption : IsScan adoption_table stored_adoption_cells adoption_order s.adoption db
  pub releases : IsScan releases_table stored_release_cells release_order s.releases db
  pub attached : IsScan attached_table stored_attached_cells attached_order s.attached db
  pub choice : IsScan choice_table stored_choice_cells choice_order s.choice db
  pub frozen : IsScan frozen_table stored_frozen_cells frozen_order s.frozen db
  pub duty : IsScan duty_table stored_duty_cells duty_order s.duty db
  pub changes : IsScan change_table stored_change_cells change_order s.changes db
  pub waiver : IsScan waiver_table stored_waiver_cells waiver_order s.waiver db

-- the rows, as cells, of the table with this tree
abbrev pub stored_rows : Snapshot → ℕ → List Row
stored_rows s tree =
    if tree == meta_table.tree then map stored_meta_cells s.meta
    else (if tree == catalogue_table.tree then map stored_catalogue_cells s.catalogue
    else (if tree == rule_table.tree then map stored_rule_cells s.rule
    else (if tree == document_table.tree then map stored_document_cells s.document
    else (if tree == package_table.tree then map stored_package_cells s.packages
    else (if tree == extracted_table.tree then map stored_extracted_cells s.extracted
    else (if tree == conclusion_table.tree then map stored_conclusion_cells s.conclusion
    else (if tree == adoption_table.tree then map stored_adoption_cells s.adoption
    else (if tree == releases_table.tree then map stored_release_cells s.releases
    else (if tree == attached_table.tree then map stored_attached_cells s.attached
    else (if tree == choice_table.tree then map stored_choice_cells s.choice
    else (if tree == frozen_table.tree then map stored_frozen_cells s.frozen
    else (if tree == duty_table.tree then map stored_duty_cells s.duty
    else (if tree == change_table.tree then map stored_change_cells s.changes
    else (if tree == reading_table.tree then map stored_reading_cells s.reading
    else map stored_waiver_cells s.waiver))))))))))))))

-- the rows of each table are in the order of their rowids, as every store keeps them
abbrev pub AreTables : Schema → Trees → Type 0
AreTables schema trees = AllByRecursion
    (λ t. IsTable (trees t.tree) × AllByRecursion (λ r. is_int (rowid r) ≡ true) (trees t.tree))
    schema.tables

-- these are the rows whose cells a query with no parameters shows, in its first `width` columns
abbrev pub IsShown : {A : Type 0} → List ℕ → ℕ → (A → Row) → List A → State → State → Type 0
IsShown sql width cells_of rows old new = (shown : List Row) × Shown sql [] old new shown
    × (map (columns_of width) shown ≡ map cells_of rows)

-- What was read from a connection, which stays as it was: it is true of the database that the
-- connection shows, if that has a desk's tables, and of whatever tables the database holds.
pub record IsRead (Raw : Database → Type 0) (Is : Tables → Type 0) (old new : State) : Type 0 where
  pub survives : Survives old new (λ _. ⊥)
  pub same : HasCleanDisk new → IsUnchanged old new
  pub raw : HasCleanDisk new → HasDesk old.now.schema → Raw old.now
  pub found : HasCleanDisk new → (t : Tables) → Holds t old.now → Is t
