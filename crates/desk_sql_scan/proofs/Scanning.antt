-- What a query for all rows of a table shows, in the order of its key.
use Rattle.std.proofs.Common.{◌≡◌, ℕ, true, false, List, [], ◌∷◌, map, refl, sym, ap, ap₂, subst}
use Rattle.std.proofs.Common.{subst₂, ◌∙◌, IsPermutation, Ordering, is_lt, is_eq}
use Rattle.std.specs.Cmp.{IsTotalOrder}
use Rattle.std.specs.List.{AllByRecursion}
use Rattle.std.proofs.lemmas.Cmp.{on_total}
use Rattle.std.proofs.lemmas.List.Sorted.{IsPermutation-map, IsPermutation-sym}
use Rattle.desk_history.proofs.Rows.{map_same}
use Rattle.desk_sql_adopt.proofs.Olders.{each}
use Rattle.sqlite_value.specs.declared.keys.Key.{Key}
use Rattle.sqlite_value.specs.declared.value.Value.{Value}
use Rattle.sqlite_value.specs.declared.value.Value.TheVariants.{Null, Int, Real, Text, Blob}
use Rattle.sqlite_value.specs.declared.keys.Collation.TheVariants.{Binary}
use Rattle.sqlite_value.specs.Keys.{ascending}
use Rattle.sqlite_value.specs.Order.{Row}
use Rattle.sqlite_trees.specs.Tree.{IsAscending}
use Rattle.sqlite_trees.proofs.ListLemmas.{filter_all, map-map, ascending-map, ascending_from_map, ascending_weaker}
use Rattle.sqlite_keyed.proofs.SortLemmas.{sorted_is-sort_by}
use Rattle.sqlite_sql.specs.Term.{Term, col, lit, op2}
use Rattle.sqlite_sql.specs.declared.ops.BinaryOp.TheVariants.{Coalesce}
use Rattle.sqlite_sql.specs.Ops.{binary}
use Rattle.sqlite_sql.specs.Query.{Query, Output, output, output_cmp, key_cmp}
use Rattle.sqlite_sql.proofs.QueryLemmas.{output_cmp_total}
use Rattle.sqlite_schema.specs.declared.schema.Table.{Table}
use Rattle.sqlite_schema.specs.declared.command.Command.TheVariants.{Select}
use Rattle.sqlite_rules.specs.Lists.{Has}
use Rattle.sqlite_rules.proofs.ListLemmas.{all_from, all_has}
use Rattle.sqlite_rules.proofs.ProbeLemmas.{has_mapped}
use Rattle.sqlite.specs.Effect.{Database, Reads}
use Rattle.sqlite.specs.Listing.{understood}
use Rattle.sqlite.proofs.Callers.{command_of}
use Rattle.desk_sql_layout.specs.Desk.{HasDesk}
use Rattle.desk_sql_layout.specs.Held.{labelled}
use Rattle.desk_sql_layout.specs.Layout.{desk_schema}
use Rattle.desk_sql_layout.specs.Stored.{cells}
use Rattle.desk_sql_layout.proofs.Declared.{entry, tree_is}
use Rattle.desk_sql_layout.proofs.Edits.{has_permuted}
use Rattle.desk_sql_layout.proofs.Orders.{from_sorted}
use Rattle.desk_sql_layout.proofs.Queries.{query_on, env, selected, Selected}
use Rattle.desk_sql_layout.proofs.Selects.{order_by, AreApart}
use Rattle.desk_sql_layout.proofs.Ties.{keys, picked, sorted_from}
use Rattle.desk_sql_layout.specs.Causes.{IsRow}
use Rattle.desk_sql_layout.proofs.Selecting.{IsSelect, as_declared, command_here}
use Rattle.desk_sql_scan.specs.Causes.{AreCells}
use Rattle.desk_sql_scan.specs.Cells.{columns_of}
use Rattle.desk_sql_scan.specs.Scans.{IsScan}

fixed : {X : Type 0} (f : X → X) (xs : List X) → AllByRecursion (λ x. f x ≡ x) xs → map f xs ≡ xs
fixed f [] h = refl
fixed f (x ∷ xs) h = ap₂ (λ a l. a ∷ l) h.0 (fixed f xs h.1)

-- the order of columns, the first of which is written as `+column`: so it isn't taken from an
-- index, by which rows are sought one by one
abbrev pub sorted_by : List ℕ → List (Term × Key)
sorted_by [] = []
sorted_by (p ∷ ps) = (op2 Coalesce (col 1 p) (lit Null), ascending Binary) ∷ order_by ps

-- this is the value in the column
pub itself : (v : Value) → binary Coalesce v Null ≡ v
unfolding binary
itself Null = refl
itself (Int n) = refl
itself (Real x) = refl
itself (Text t) = refl
itself (Blob b) = refl

module _ (table : Table) where
  abbrev this : Table
  this = as_declared table

  -- a query that shows the cells of each row, and sorts by some of them
  module _ (sql : List ℕ) (names : List (List ℕ)) (project : List Term) (ps : List ℕ)
      (by : List (Term × Key)) (keyed : map (λ (k : Term × Key). k.1) by ≡ keys ps)
      (pick : Row → Row) (width : ℕ)
      (there : Has desk_schema.tables this) (it : IsSelect sql 0 table.tree [] project by names)
      (acts : (r : Row) → output (query_on table.tree [] project by) (env [] r)
      ≡ (pick (cells this r), cells this r))
      (wide : (r : Row) → columns_of width (cells this r) ≡ cells this r) (db : Database)
      (desk : HasDesk db.schema) (shown : List Row)
      (reads : Reads (command_of (understood db.schema sql)) db [] shown) where
    abbrev stored : List Row
    stored = labelled db table.tree

    abbrev asked : Query
    asked = query_on table.tree [] project by

    abbrev out : Row → Output
    out r = output asked (env [] r)

    -- what is shown of a row whose cells these are
    abbrev of_cells : Row → Output
    of_cells cs = (pick cs, cs)

    abbrev by_key : Row → Row → Ordering
    by_key a b = output_cmp asked (of_cells a) (of_cells b)

    -- the tree of the table in this schema
    abbrev real : ℕ
    real = (entry db.schema desk this there).tree

    answer : Selected asked [] stored shown
    answer =
        let read : Reads (Select (record { lets = []; body = query_on real [] project by }) names)
        db [] shown = subst (λ c. Reads c db [] shown)
        (command_here it this there refl db.schema desk) reads in
        let found = selected real [] project by db.trees [] shown (read.answer Null) in
        let at_real : Selected asked [] (db.trees real) shown = record {
          ordered = found.ordered;
          same = found.same;
          sorted = found.sorted;
          shown = found.shown;
        } in
        subst (λ l. Selected asked [] l shown)
        (sym (ap db.trees (tree_is db.schema desk this there))) at_real

    outs_are : IsPermutation (map out stored) answer.ordered
    outs_are = subst (λ l. IsPermutation (map out l) answer.ordered)
        (filter_all (λ (r : Row). true) stored (each stored))
        answer.same

    -- the rows, each cut to its columns, which are all that it has
    abbrev rows : List Row
    rows = map (columns_of width) shown

    ordered_are : map of_cells rows ≡ answer.ordered
    ordered_are =
        let f = λ (o : Output). of_cells (columns_of width o.1) in
        let one : (r : Row) → f (out r) ≡ out r = λ r. let e : out r ≡ of_cells (cells this r) =
        acts r in ap f e ∙ ap of_cells (wide r) ∙ sym e in
        let all : AllByRecursion (λ o. f o ≡ o) answer.ordered =
        all_from (λ o. f o ≡ o) answer.ordered (λ o there.
        let x = has_mapped out stored o
        (has_permuted (map out stored) answer.ordered o outs_are there) in
        subst (λ o. f o ≡ o) (sym x.2) (one x.0)) in
        ap (λ l. map of_cells (map (columns_of width) l)) answer.shown
        ∙ ap (map of_cells) (map-map (columns_of width) (λ (o : Output). o.1) answer.ordered)
        ∙ map-map of_cells (λ (o : Output). columns_of width o.1) answer.ordered
        ∙ fixed f answer.ordered all

    pub rows_are : IsPermutation rows (map (cells this) stored)
    rows_are =
        let second = λ (o : Output). o.1 in
        let left : map second (map out stored) ≡ map (cells this) stored = map-map second out stored
        ∙ map_same (λ r. second (out r)) (cells this) (λ r. ap second (acts r))
        stored in
        let right : map second answer.ordered ≡ rows = sym (ap (map second) ordered_are)
        ∙ map-map second of_cells rows
        ∙ fixed (λ r. r) rows (all_from (λ r. r ≡ r) rows (λ r there. refl)) in
        IsPermutation-sym _ _ (subst₂ (λ a b. IsPermutation a b) left right
        (IsPermutation-map second _ _ outs_are))

    pub rows_rise : IsAscending (λ a b. is_lt (by_key b a) ≡ false) rows
    rows_rise =
        let up = from_sorted (output_cmp asked) (output_cmp_total asked) answer.ordered
        answer.sorted in
        ascending_from_map (λ a b. is_lt (output_cmp asked b a) ≡ false) of_cells rows
        (subst (IsAscending (λ a b. is_lt (output_cmp asked b a) ≡ false)) (sym ordered_are) up)

    -- what is shown is in the table
    shown_are : IsPermutation (map (cells this) stored) shown
    shown_are =
        let second = λ (o : Output). o.1 in
        let left : map second (map out stored) ≡ map (cells this) stored = map-map second out stored
        ∙ map_same (λ r. second (out r)) (cells this) (λ r. ap second (acts r))
        stored in
        subst₂ (λ a b. IsPermutation a b) left (sym answer.shown)
        (IsPermutation-map second _ _ outs_are)

    -- it can be read, if the rows that are held are as a desk writes them
    pub all_written : {A X : Type 0} (cells_of : A → Row) (stored_of : X → A) (xs : List X)
        → IsPermutation (map (λ x. cells_of (stored_of x)) xs)
        (map (cells this) stored)
        → AllByRecursion IsRow (map (λ x. cells_of (stored_of x)) xs)
        → AllByRecursion (AreCells cells_of) shown
    all_written {A} {X} cells_of stored_of xs same written =
        let base = map (cells this) stored in
        let f = λ (x : X). cells_of (stored_of x) in
        all_from (AreCells cells_of) shown (λ row there.
        let held = has_permuted (map f xs) base row same
        (has_permuted base shown row shown_are there) in
        let x = has_mapped f xs row held in
        (all_has IsRow (map f xs) row written held, (stored_of x.0, x.2)))

    module _ {A : Type 0} (cells_of : A → Row) (order : A → A → Ordering)
        (agrees : (a b : A) → by_key (cells_of a) (cells_of b) ≡ order a b) (found : List A)
        (are : rows ≡ map cells_of found) where
      pub scanned : IsScan this cells_of order found db
      scanned = record {
        shown = subst (λ l. IsPermutation l (map (cells this) stored)) are rows_are;
        ordered =
            let up = ascending_from_map (λ a b. is_lt (by_key b a) ≡ false) cells_of found
            (subst (IsAscending (λ a b. is_lt (by_key b a) ≡ false)) are rows_rise) in
            ascending_weaker (λ a b. is_lt (by_key (cells_of b) (cells_of a)) ≡ false)
            (λ a b. is_lt (order b a) ≡ false) (λ a b h. ap is_lt (sym (agrees b a)) ∙ h) found up;
      }

      -- they are the rows that are held, if these are in order
      module _ (apart : AreApart ps stored)
          (picks : (r : Row) → pick (cells this r) ≡ picked ps r) {X : Type 0} (stored_of : X → A)
          (xs : List X)
          (same : IsPermutation (map (λ x. cells_of (stored_of x)) xs)
          (map (cells this) stored))
          (sorted : IsAscending (λ a b. is_lt (order (stored_of b) (stored_of a)) ≡ false) xs)
          (back : Row → A) (inverse : (a : A) → back (cells_of a) ≡ a) where
        no_ties : IsAscending (λ a b. is_eq (by_key a b) ≡ false)
            (map (cells this) stored)
        no_ties =
            ascending-map (λ a b. is_eq (by_key a b) ≡ false) (cells this) stored
            (ascending_weaker (λ a b. is_eq (key_cmp 0 (keys ps) (picked ps a) (picked ps b))
            ≡ false) (λ a b. is_eq (by_key (cells this a) (cells this b)) ≡ false)
            (λ a b h. rw (keyed, picks a, picks b) h) stored apart)

        abbrev wanted : List Row
        wanted = map (λ x. cells_of (stored_of x)) xs

        wanted_rise : IsAscending (λ a b. is_lt (by_key b a) ≡ false) wanted
        wanted_rise =
            ascending-map (λ a b. is_lt (by_key b a) ≡ false) (λ x. cells_of (stored_of x)) xs
            (ascending_weaker (λ a b. is_lt (order (stored_of b) (stored_of a)) ≡ false)
            (λ a b. is_lt (by_key (cells_of (stored_of b)) (cells_of (stored_of a))) ≡ false)
            (λ a b h. ap is_lt (agrees (stored_of b) (stored_of a)) ∙ h) xs sorted)

        total : IsTotalOrder by_key
        total = on_total of_cells (output_cmp_total asked)

        pub is_held : found ≡ map stored_of xs
        is_held =
            let base = map (cells this) stored in
            let mine = sorted_is-sort_by by_key total base rows no_ties
            (IsPermutation-sym _ _ rows_are) (sorted_from by_key rows rows_rise) in
            let theirs = sorted_is-sort_by by_key total base wanted no_ties
            (IsPermutation-sym _ _ same) (sorted_from by_key wanted wanted_rise) in
            let shown : map cells_of found ≡ map cells_of (map stored_of xs) = sym are ∙ mine
            ∙ sym theirs ∙ sym (map-map cells_of stored_of xs) in
            sym (undone found) ∙ ap (map back) shown ∙ undone (map stored_of xs)
          where
            undone : (ys : List A) → map back (map cells_of ys) ≡ ys
            undone ys = map-map back cells_of ys
                ∙ fixed (λ a. back (cells_of a)) ys
                (all_from (λ a. back (cells_of a) ≡ a) ys (λ a there. inverse a))
