-- A query for all rows of a table, in the order of its key: what it shows, once it is known what
-- the library makes of its text.
use Rattle.std.proofs.Common.{◌≡◌, ℕ, true, false, List, [], ◌∷◌, map, Some, Result, refl, sym}
use Rattle.std.proofs.Common.{subst, Ordering, is_lt, IsPermutation, get_or}
use Rattle.std.specs.Prelude.{slice_get}
use Rattle.std.specs.List.{AllByRecursion}
use Rattle.sqlite_value.specs.declared.keys.Key.{Key}
use Rattle.sqlite_value.specs.Keys.{plain}
use Rattle.sqlite_value.specs.Order.{Row}
use Rattle.sqlite_trees.specs.Tree.{IsAscending}
use Rattle.sqlite_sql.specs.Term.{Term}
use Rattle.sqlite_sql.specs.Query.{key_cmp, output}
use Rattle.sqlite_typing.specs.Types.{accepts_program}
use Rattle.sqlite_schema.specs.declared.schema.Table.{Table}
use Rattle.sqlite_rules.specs.Lists.{Has}
use Rattle.sqlite_rules.proofs.ListLemmas.{has_got}
use Rattle.sqlite.specs.Effect.{Database, Reads}
use Rattle.sqlite.specs.Listing.{understood}
use Rattle.sqlite.proofs.Callers.{command_of}
use Rattle.desk_model.specs.Tables.{Tables}
use Rattle.desk_model.specs.declared.command.Fault.{Fault}
use Rattle.desk_sql_layout.specs.Layout.{desk_schema}
use Rattle.desk_sql_layout.specs.Desk.{HasDesk}
use Rattle.desk_sql_layout.specs.Held.{AreOrderly, HasRows, Holds, labelled, rows_of}
use Rattle.desk_sql_layout.specs.Stored.{cells}
use Rattle.desk_sql_layout.proofs.Queries.{query_on, env}
use Rattle.desk_sql_layout.specs.Causes.{AreWritten, IsRow}
use Rattle.desk_sql_layout.proofs.Selects.{AreApart, order_by, mine, by_rowid, by_unique}
use Rattle.desk_sql_layout.proofs.Ties.{are_keys, keys, picked}
use Rattle.desk_sql_layout.proofs.Selecting.{as_declared, select_asked}
use Rattle.desk_sql_adopt.proofs.Selecting.{IsBareSelect, select_asks}
use Rattle.desk_sql_scan.specs.Causes.{AreCells}
use Rattle.desk_sql_scan.specs.Cells.{columns_of}
use Rattle.desk_sql_scan.specs.Scanning.{Lists, Scans}
use Rattle.desk_sql_scan.specs.Scans.{IsScan}
use Rattle.desk_sql_scan.specs.declared.source.Source.{Ghosts}
use Rattle.desk_sql_scan.proofs.Scanning.{sorted_by, scanned, is_held, all_written}
use Rattle.desk_sql_scan.proofs.Telling.{scan_told}

-- whoever reads what the text shows reads the rows of the table in their order, and this is true of
-- the tables
abbrev pub TellsRows : {S A : Type 0} → Ghosts S → List ℕ → ℕ → Table → (A → Row)
    → (A → A → Ordering) → (List A → Tables → Type 0) → Type 0
TellsRows {S} {A} g text width table cells_of order Is =
    (old new : S) (r : Result (List A) Fault) → Lists g text width cells_of old new r
    → Scans g old new r (IsScan table cells_of order) Is

-- a table, and its rows as they are read: `stored_of` those that are held
module _ {S : Type 0} (g : Ghosts S) (table : Table) (place : ℕ)
    (listed : slice_get desk_schema.tables place ≡ Some (as_declared table)) {A : Type 0}
    (cells_of : A → Row) (order : A → A → Ordering) (back : Row → A)
    (inverse : (a : A) → back (cells_of a) ≡ a)
    {X : Type 0} (stored_of : X → A) (xs : Tables → List X)
    (here : (t : Tables) → rows_of t table.tree ≡ map (λ x. cells_of (stored_of x)) (xs t))
    (width : ℕ) (wide : (r : Row)
    → columns_of width (cells (as_declared table) r) ≡ cells (as_declared table) r) where
  abbrev this : Table
  this = as_declared table

  there : Has desk_schema.tables this
  there = has_got desk_schema.tables place this listed

  -- those that are held are in order
  abbrev pub Rise : Tables → Type 0
  Rise t = IsAscending (λ a b. is_lt (order (stored_of b) (stored_of a)) ≡ false) (xs t)

  -- what is true of the tables follows from it
  abbrev Tells : (List A → Tables → Type 0) → Type 0
  Tells Is = (rows : List A) (t : Tables) → AreOrderly t → (Rise t → rows ≡ map stored_of (xs t))
      → Is rows t

  same : (t : Tables) (db : Database) → Holds t db
      → IsPermutation (map (λ x. cells_of (stored_of x)) (xs t))
      (map (cells this) (labelled db table.tree))
  same t db holds = (mine table.name table.tree table.columns table.key table.primary table.uniques
      table.orders place listed (λ x. cells_of (stored_of x)) (rows_of t) (xs t) (here t) db
      holds.rows).same

  -- a query that sorts by the columns `at` of what it shows, which are at `ps` in a stored row
  module _ {text : List ℕ} {project : List Term} {by : List (Term × Key)} {names : List (List ℕ)}
      (it : IsBareSelect text 0 table.tree [] project by names)
      (accepts : accepts_program desk_schema [] (query_on table.tree [] project by) [] ≡ true)
      (ps : List ℕ) (keyed : map (λ (k : Term × Key). k.1) by ≡ keys ps) (at : List ℕ)
      (acts : (r : Row) → output (query_on table.tree [] project by) (env [] r)
      ≡ (picked at (cells this r), cells this r))
      (picks : (r : Row) → picked at (cells this r) ≡ picked ps r)
      (agrees : (a b : A) → key_cmp 0 (keys ps) (picked at (cells_of a)) (picked at (cells_of b))
      ≡ order a b)
      (apart : (t : Tables) (db : Database) → HasRows (rows_of t) db
      → AreApart ps (labelled db table.tree)) where
    by_order : (a b : A) → key_cmp 0 (map (λ (k : Term × Key). k.1) by) (picked at (cells_of a))
        (picked at (cells_of b)) ≡ order a b
    by_order a b = subst (λ k. key_cmp 0 k (picked at (cells_of a)) (picked at (cells_of b))
        ≡ order a b) (sym keyed) (agrees a b)

    module _ (db : Database) (desk : HasDesk db.schema) (shown : List Row)
        (reads : Reads (command_of (understood db.schema text)) db [] shown) where
      raw : (rows : List A) → map (columns_of width) shown ≡ map cells_of rows
          → IsScan this cells_of order rows db
      raw rows are = scanned table text names project ps by keyed (picked at) width there it.select
          acts wide db desk shown reads cells_of order by_order rows are

      held : (rows : List A) → map (columns_of width) shown ≡ map cells_of rows → (t : Tables)
          → Holds t db → Rise t → rows ≡ map stored_of (xs t)
      held rows are t holds rise =
          is_held table text names project ps by keyed (picked at) width there it.select acts wide
          db desk shown reads cells_of order by_order rows are
          (apart t db holds.rows) picks stored_of (xs t) (same t db holds) rise back inverse

      written : (t : Tables) → Holds t db → AreWritten t → AllByRecursion (AreCells cells_of) shown
      written t holds are =
          all_written table text names project ps by keyed (picked at) width there it.select acts
          wide db desk shown reads cells_of stored_of (xs t)
          (same t db holds) (subst (AllByRecursion IsRow) (here t) (are.cells table.tree))

    table_read : (Is : List A → Tables → Type 0) → Tells Is
        → TellsRows g text width this cells_of order Is
    table_read Is tells old new r lists =
        scan_told text (select_asks it)
        (select_asked it.select this there refl [] refl accepts) width cells_of g old new r lists
        (IsScan this cells_of order) Is
        (λ rows db desk shown reads are. raw db desk shown reads rows are)
        (λ rows db desk shown reads are t holds. tells rows t holds.orderly
        (held db desk shown reads rows are t holds)) written

  -- by its rowid
  pub read_by_rowid : {text : List ℕ} {project : List Term} {names : List (List ℕ)}
      → IsBareSelect text 0 table.tree [] project (order_by (0 ∷ [])) names
      → accepts_program desk_schema [] (query_on table.tree [] project (order_by (0 ∷ []))) []
      ≡ true
      → ((r : Row) → output (query_on table.tree [] project (order_by (0 ∷ []))) (env [] r)
      ≡ (picked (0 ∷ []) (cells this r), cells this r))
      → ((r : Row) → picked (0 ∷ []) (cells this r) ≡ picked (0 ∷ []) r)
      → ((a b : A) → key_cmp 0 (keys (0 ∷ [])) (picked (0 ∷ []) (cells_of a))
      (picked (0 ∷ []) (cells_of b)) ≡ order a b) → (Is : List A → Tables → Type 0) → Tells Is
      → TellsRows g text width this cells_of order Is
  read_by_rowid it accepts acts picks agrees =
      table_read it accepts (0 ∷ []) refl (0 ∷ []) acts picks agrees
      (λ t db has. by_rowid table.name table.tree table.columns table.key table.primary
      table.uniques table.orders place listed (λ x. cells_of (stored_of x)) (rows_of t) (xs t)
      (here t) db has)

  -- by the key that is declared unique in this place
  pub read_by_key : (ps at : List ℕ) (nth : ℕ) → slice_get table.uniques nth ≡ Some ps
      → get_or table.orders nth plain ≡ plain
      → map (λ (k : Term × Key). k.1) (sorted_by ps) ≡ keys ps
      → {text : List ℕ} {project : List Term} {names : List (List ℕ)}
      → IsBareSelect text 0 table.tree [] project (sorted_by ps) names
      → accepts_program desk_schema [] (query_on table.tree [] project (sorted_by ps)) [] ≡ true
      → ((r : Row) → output (query_on table.tree [] project (sorted_by ps)) (env [] r)
      ≡ (picked at (cells this r), cells this r))
      → ((r : Row) → picked at (cells this r) ≡ picked ps r)
      → ((r : Row) → are_keys ps r ≡ are_keys at (cells this r))
      → ((x : X) → are_keys at (cells_of (stored_of x)) ≡ true)
      → ((a b : A) → key_cmp 0 (keys ps) (picked at (cells_of a)) (picked at (cells_of b))
      ≡ order a b) → (Is : List A → Tables → Type 0) → Tells Is
      → TellsRows g text width this cells_of order Is
  read_by_key ps at nth unique ordered keyed it accepts acts picks same_keys are agrees =
      table_read it accepts ps keyed at acts picks agrees
      (λ t db has. by_unique table.name table.tree table.columns table.key table.primary
      table.uniques table.orders place listed (λ x. cells_of (stored_of x)) (rows_of t) (xs t)
      (here t) db has nth ps unique ordered (are_keys at) same_keys are)
