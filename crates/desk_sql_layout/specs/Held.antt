-- When a database holds the desk's tables, and what contracts see of a connection to it.
use Rattle.std.specs.Prelude.{◌≡◌, ◌==◌, ◌+◌, ◌&&◌, ◌||◌, nat_lt, nat_le, ℕ, Bool, true}
use Rattle.std.specs.Prelude.{if◌then◌else◌, List, [], ◌∷◌, filter, map, length, IsTrue}
use Rattle.std.specs.List.{list_all}
use Rattle.sqlite_value.specs.Order.{Row}
use Rattle.sqlite_trees.specs.Tree.{Trees}
use Rattle.sqlite.specs.Effect.{Database, IsDatabase}
use Rattle.sqlite.specs.State.{State, HasCleanDisk}
use Rattle.desk_model.specs.Tables.{Tables}
use Rattle.desk_model.specs.Texts.{text_below}
use Rattle.desk_model.specs.declared.row.PackageRow.{PackageRow}
use Rattle.desk_model.specs.declared.command.Change.{Change}
use Rattle.desk_model.specs.declared.command.Change.TheVariants as change
use Rattle.desk_model.specs.Moves.{is_waiver}
use Rattle.desk_history.specs.Laws.{Ascends, AreSorted}
use Rattle.desk_access.specs.Seen.{Seen}
use Rattle.desk_sql_layout.specs.Layout.{desk_schema, meta_table, catalogue_table, rule_table}
use Rattle.desk_sql_layout.specs.Layout.{document_table, package_table, extracted_table}
use Rattle.desk_sql_layout.specs.Layout.{conclusion_table, adoption_table, releases_table}
use Rattle.desk_sql_layout.specs.Layout.{attached_table, choice_table, frozen_table, duty_table}
use Rattle.desk_sql_layout.specs.Layout.{change_table, reading_table}
use Rattle.desk_sql_layout.specs.Desk.{HasDesk, tree_in}
use Rattle.desk_sql_layout.specs.Stored.{AllStored}
use Rattle.desk_sql_layout.specs.Cells.{meta_cells, catalogue_cells, rule_cells, document_cells}
use Rattle.desk_sql_layout.specs.Cells.{reading_cells, package_cells, extracted_cells}
use Rattle.desk_sql_layout.specs.Cells.{conclusion_cells, adoption_cells, release_cells}
use Rattle.desk_sql_layout.specs.Cells.{attached_cells, choice_cells, frozen_cells, duty_cells}
use Rattle.desk_sql_layout.specs.Cells.{change_cells, waiver_cells, is_word}

-- the rows, as cells, of the table with this tree
abbrev pub rows_of : Tables → ℕ → List Row
rows_of t tree =
    if tree == meta_table.tree then meta_cells ∷ []
    else (if tree == catalogue_table.tree then map catalogue_cells t.catalogue
    else (if tree == rule_table.tree then map rule_cells t.rule
    else (if tree == document_table.tree then map document_cells t.document
    else (if tree == package_table.tree then map package_cells t.packages
    else (if tree == extracted_table.tree then map extracted_cells t.extracted
    else (if tree == conclusion_table.tree then map conclusion_cells t.conclusion
    else (if tree == adoption_table.tree then map adoption_cells t.adoption
    else (if tree == releases_table.tree then map release_cells t.releases
    else (if tree == attached_table.tree then map attached_cells t.attached
    else (if tree == choice_table.tree then map choice_cells t.choice
    else (if tree == frozen_table.tree then map frozen_cells t.frozen
    else (if tree == duty_table.tree then map duty_cells t.duty
    else (if tree == change_table.tree then map change_cells t.changes
    else (if tree == reading_table.tree then map reading_cells t.document
    else map waiver_cells (filter is_waiver t.changes)))))))))))))))

-- the stored rows of the desk's table that has this tree where the file has no other tables
abbrev pub labelled : Database → ℕ → List Row
labelled db tree = db.trees (tree_in db.schema tree)

-- The database has the desk's tables, with these rows in any order, and it is sound: each row is as
-- its columns say, and no key that is declared unique appears twice.
pub record HasRows (rows : ℕ → List Row) (db : Database) : Type 0 where
  pub declared : HasDesk db.schema
  pub stored : AllStored desk_schema rows (labelled db)
  pub sound : IsDatabase db

-- these are the numbers n, n + 1 and so on
abbrev pub AreNumbered : ℕ → List ℕ → Type 0
AreNumbered n [] = Unit {0}
AreNumbered n (m ∷ ms) = (m ≡ n) × AreNumbered (n + 1) ms

-- the order of packages, by document and id
abbrev pub package_below : PackageRow → PackageRow → Bool
package_below a b = nat_lt a.document b.document
    || ((a.document == b.document) && text_below a.id b.id)

-- The order of rows, and what they name: what a look-up by key or number relies on.
pub record AreOrderly (t : Tables) : Type 0 where
  -- each table by its key
  pub sorted : AreSorted t
  pub packages : Ascends package_below t.packages
  -- revisions, documents and duties are numbered 1, 2 and so on
  pub revisions : AreNumbered 1 (map (λ row. row.revision) t.catalogue)
  pub documents : AreNumbered 1 (map (λ row. row.number) t.document)
  pub duties : AreNumbered 1 (map (λ row. row.number) t.duty)
  -- packages and changes are of documents and duties that exist
  pub of_documents : list_all (λ row. nat_le row.document (length t.document)) t.packages ≡ true
  pub of_duties : list_all (λ row. nat_le row.duty (length t.duty)) t.changes ≡ true
  -- the codes of rules are words, which can be separated again when they are joined
  pub codes : list_all (λ row. list_all is_word row.codes) t.rule ≡ true

-- the database holds these tables
pub record Holds (t : Tables) (db : Database) : Type 0 where
  pub rows : HasRows (rows_of t) db
  pub orderly : AreOrderly t

-- what a stop left opens as a database that holds these tables
abbrev pub Stands : Trees → Tables → Type 0
Stands trees t = (db : Database) × Holds t db × (trees ≡ db.trees)

-- a connection shows a database that holds these tables, and all of it is committed
pub record Showing (s : State) (t : Tables) : Type 0 where
  pub holds : Holds t s.now
  pub settled : s.committed ≡ s.now

-- what contracts see of a connection
abbrev pub seen_of : State → Seen Trees
seen_of s = record {
  holds = λ t. HasCleanDisk s → IsTrue s.is_open → Showing s t;
  is_honest = HasCleanDisk s;
  is_open = IsTrue s.is_open;
  faults = s.faults;
  leaves = s.may_leave;
}

-- What a store knows of its rows without looking: how many revisions, documents, releases and
-- duties there are, and the forms of the catalogue in force, which are in no table, only in the
-- text of its revision.
pub record Known : Type 0 where
  pub revisions : ℕ
  pub documents : ℕ
  pub releases : ℕ
  pub duties : ℕ
  pub forms : List (List ℕ)

-- what there is to know of these tables
abbrev pub known_of : Tables → Known
known_of t = record {
  revisions = length t.catalogue;
  documents = length t.document;
  releases = length t.releases;
  duties = length t.duty;
  forms = t.forms;
}

-- the same after a change
abbrev pub known_after : Change → Known → Known
known_after (change.Loaded row rules forms) k = record k {
  revisions = k.revisions + 1;
  forms = forms;
}
known_after (change.Imported row packages references) k = record k { documents = k.documents + 1 }
known_after (change.Opened row) k = record k { releases = k.releases + 1 }
known_after (change.Froze release revision rows duties changes) k = record k {
  duties = k.duties
      + length duties;
}
known_after _ k = k

-- what contracts see of a store that knows this of its rows
abbrev pub counted : Known → Seen Trees → Seen Trees
counted k s = record {
  holds = λ t. (known_of t ≡ k) × s.holds t;
  is_honest = s.is_honest;
  is_open = s.is_open;
  faults = s.faults;
  leaves = s.leaves;
}
