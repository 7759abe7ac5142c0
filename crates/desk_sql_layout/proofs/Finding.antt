-- What a query of a desk's table finds, once it is known what the library makes of its text.
use Rattle.std.proofs.Common.{◌≡◌, ◌∙◌, ℕ, Bool, true, false, List, [], ◌∷◌, zero, suc, map, filter}
use Rattle.std.proofs.Common.{length, refl, sym, ap, subst, is_eq, is_lt}
use Rattle.std.specs.List.{AllByRecursion}
use Rattle.desk_base.proofs.Lists.{filter-true}
use Rattle.sqlite_value.specs.Order.{Row, column}
use Rattle.sqlite_trees.specs.Tree.{IsAscending}
use Rattle.sqlite_trees.proofs.ListLemmas.{ascending-filter, map-map}
use Rattle.sqlite_sql.specs.Term.{Term}
use Rattle.sqlite_sql.specs.Query.{Output, key_cmp, output, output_cmp}
use Rattle.sqlite_typing.specs.Types.{accepts_program}
use Rattle.sqlite_schema.specs.declared.schema.Table.{Table}
use Rattle.sqlite_rules.specs.Lists.{Has}
use Rattle.sqlite_rules.proofs.ListLemmas.{has_got}
use Rattle.sqlite.specs.State.{State, Shown}
use Rattle.desk_model.specs.Tables.{Tables}
use Rattle.desk_sql_layout.specs.Held.{AreOrderly, Holds, rows_of}
use Rattle.desk_sql_layout.specs.Layout.{desk_schema}
use Rattle.desk_sql_layout.specs.Stored.{cells}
use Rattle.desk_sql_layout.proofs.Queries.{query_on, passes, env}
use Rattle.desk_sql_layout.specs.Causes.{AreWritten, IsAsked, IsRow, IsWritten}
use Rattle.desk_sql_layout.proofs.Causes.{filter_written}
use Rattle.desk_sql_layout.proofs.Selecting.{IsSelect, as_declared, select_asked}
use Rattle.desk_sql_layout.proofs.Selects.{apart_shown, at_one_key, counts, keys_are, order_by}
use Rattle.desk_sql_layout.proofs.Selects.{shows}
use Rattle.desk_sql_layout.proofs.Ties.{keys, picked}
use Rattle.desk_sql_layout.proofs.Views.{StandApart, View}

-- with these values a text is a query of the desk's tables, and what it shows is true of the rows
pub record Finds (text : List ℕ) (params : Row) (Is : Tables → List Row → Type 0) : Type 1 where
  pub asked : IsAsked text params
  pub right : (old new : State) (rows : List Row) (t : Tables) → Shown text params old new rows
      → Holds t old.now
      → Is t rows

-- and more is true of them
pub finds_more : {text : List ℕ} {params : Row} {Is : Tables → List Row → Type 0}
    → Finds text params Is
    → {More : Tables → List Row → Type 0}
    → ((t : Tables) (rows : List Row) → AreOrderly t → Is t rows → More t rows)
    → Finds text params More
finds_more it more = record {
  asked = it.asked;
  right = λ old new rows t shown holds. more t rows holds.orderly
      (it.right old new rows t shown holds);
}

pub finds_both : {text : List ℕ} {params : Row} {One Two : Tables → List Row → Type 0}
    → Finds text params One
    → Finds text params Two → Finds text params (λ t rows. One t rows × Two t rows)
finds_both one two = record {
  asked = one.asked;
  right = λ old new rows t shown holds.
      (one.right old new rows t shown holds, two.right old new rows t shown holds);
}

-- what it shows are the cells of these, which are as a desk writes them
pub record FindsRows (text : List ℕ) (params : Row) {X : Type 0} (f : X → Row)
    (xs : Tables → List X) : Type 1 where
  pub finds : Finds text params (λ t rows. rows ≡ map f (xs t))
  pub written : (t : Tables) → AreWritten t → AllByRecursion IsRow (map f (xs t))

-- the cells of what these are mapped to
pub finds_mapped : {text : List ℕ} {params : Row} {X Y : Type 0} (f : Y → Row)
    (g : X → Y) {xs : Tables → List X}
    → FindsRows text params (λ x. f (g x)) xs → FindsRows text params f (λ t. map g (xs t))
finds_mapped f g {xs} it = record {
  finds = finds_more it.finds (λ t rows orderly is. is ∙ sym (map-map f g (xs t)));
  written = λ t are. subst (AllByRecursion IsRow) (sym (map-map f g (xs t))) (it.written t are);
}

-- all rows, each of which passes
pub finds_every : {text : List ℕ} {params : Row} {X : Type 0} {f : X → Row} {xs : Tables → List X}
    → FindsRows text params f (λ t. filter (λ x. true) (xs t)) → FindsRows text params f xs
finds_every {f = f} {xs = xs} it = record {
  finds = finds_more it.finds (λ t rows orderly is. is ∙ ap (map f) (filter-true (xs t)));
  written = λ t are. subst (λ l. AllByRecursion IsRow (map f l)) (filter-true (xs t))
      (it.written t are);
}

column_written : (cs : Row) (at : ℕ) → IsRow cs → IsWritten (column cs at)
column_written [] at all = tt
column_written (v ∷ cs) zero all = all.0
column_written (v ∷ cs) (suc at) all = column_written cs at all.1

picked_written : (out : List ℕ) (cs : Row) → IsRow cs → IsRow (picked out cs)
picked_written [] cs all = tt
picked_written (at ∷ out) cs all = (column_written cs at all, picked_written out cs all)

-- a query of a table: what it tests of the cells of a row, by which of them it sorts, and which it
-- shows
module _ {X : Type 0} (view : View X)
    (ps : List ℕ) {text : List ℕ} {parameters : ℕ} {tests project : List Term}
    {names : List (List ℕ)} (it : IsSelect text parameters view.table.tree tests project
    (order_by ps) names)
    (params : Row) (many : parameters ≡ length params)
    (accepts : accepts_program desk_schema [] (query_on view.table.tree tests project (order_by ps))
    params ≡ true)
    (q : Row → Bool) (at out : List ℕ)
    (tested : (r : Row) → passes tests params r ≡ q (cells (as_declared view.table) r))
    (acts : (r : Row) → output (query_on view.table.tree tests project (order_by ps)) (env params r)
    ≡ (picked at (cells (as_declared view.table) r), picked out (cells (as_declared view.table) r)))
    (p : X → Bool) (picks : (x : X) → q (view.cells_of x) ≡ p x) where
  abbrev this : Table
  this = view.table

  there : Has desk_schema.tables (as_declared this)
  there = has_got desk_schema.tables view.place (as_declared this) view.listed

  abbrev shown_of : Row → Output
  shown_of cs = (picked at cs, picked out cs)

  -- how many rows pass
  pub finds_count : Finds text params (λ t rows. length rows ≡ length (filter p (view.held t)))
  finds_count = record {
    asked = select_asked it (as_declared this) there refl params many accepts;
    right = λ old new rows t shown holds.
        counts this.name this.tree this.columns this.key this.primary this.uniques this.orders
        view.place view.listed
        view.cells_of (rows_of t) (view.held t) (view.here t) old.now holds.rows text names tests
        project ps it
        params q shown_of p tested acts picks old new rows shown refl;
  }

  abbrev key_of : X → Row
  key_of x = picked at (view.cells_of x)

  abbrev IsInOrder : X → X → Type 0
  IsInOrder a b =
      is_lt (output_cmp (query_on this.tree tests project (order_by ps))
      (shown_of (view.cells_of b))
      (shown_of (view.cells_of a))) ≡ false

  abbrev FindsThem : Type 1
  FindsThem = FindsRows text params (λ x. picked out (view.cells_of x))
      (λ t. filter p (view.held t))

  module _ (apart : StandApart view ps) where
    finds_sorted : ((t : Tables) (old : State) → Holds t old.now
        → IsAscending IsInOrder (filter p (view.held t)))
        → FindsThem
    finds_sorted sorted = record {
      finds = record {
        asked = select_asked it (as_declared this) there refl params many accepts;
        right = λ old new rows t shown holds.
            shows this.name this.tree this.columns this.key this.primary this.uniques this.orders
            view.place
            view.listed view.cells_of (rows_of t) (view.held t) (view.here t) old.now holds.rows
            text names tests
            project ps it params q shown_of p tested acts picks old new rows shown refl
            (apart t old holds) (sorted t old holds);
      };
      written = λ t are.
          filter_written view.cells_of (λ x. picked out (view.cells_of x))
          (λ x row. picked_written out (view.cells_of x) row) p (view.held t)
          (subst (AllByRecursion IsRow) (view.here t) (are.cells this.tree));
    }

    -- no two of those that pass have the same key
    pub finds_apart : Finds text params (λ t rows.
        IsAscending (λ a b. is_eq (output_cmp (query_on this.tree tests project (order_by ps))
        (shown_of (view.cells_of a)) (shown_of (view.cells_of b))) ≡ false)
        (filter p (view.held t)))
    finds_apart = record {
      asked = select_asked it (as_declared this) there refl params many accepts;
      right = λ old new rows t shown holds.
          apart_shown this.name this.tree this.columns this.key this.primary this.uniques
          this.orders view.place
          view.listed view.cells_of (rows_of t) (view.held t) (view.here t) old.now holds.rows text
          names tests
          project ps it params q shown_of p tested acts picks old new rows shown refl
          (apart t old holds);
    }

    -- all that pass have the same key
    pub finds_one : (k : Row) → ((x : X) → p x ≡ true → key_of x ≡ k) → FindsThem
    finds_one k same = finds_sorted (λ t old holds.
        at_one_key this.name this.tree this.columns this.key this.primary this.uniques this.orders
        view.place
        view.listed view.cells_of (rows_of t) (view.held t) (view.here t) old.now holds.rows text
        names tests project
        ps it params q shown_of p tested acts picks k same)

    -- the rows of the table are in order
    pub finds_all : ((t : Tables) → AreOrderly t
        → IsAscending (λ a b. is_lt (key_cmp 0 (keys ps) (key_of b) (key_of a)) ≡ false)
        (view.held t))
        → FindsThem
    finds_all rise = finds_sorted (λ t old holds. ascending-filter IsInOrder p (view.held t)
        (subst (λ ks. IsAscending (λ a b. is_lt (key_cmp 0 ks (key_of b) (key_of a)) ≡ false)
        (view.held t))
        (sym (keys_are ps)) (rise t holds.orderly)))
