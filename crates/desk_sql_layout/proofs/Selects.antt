-- What a query on one table shows, in the order of a key.
use Rattle.std.proofs.Common.{◌≡◌, ℕ, Bool, true, false, List, [], ◌∷◌, map, filter, get_or, length}
use Rattle.std.proofs.Common.{slice_get, Option, Some, refl, sym, ap, subst, subst₂, ◌∙◌}
use Rattle.std.proofs.Common.{IsPermutation, is_lt, is_eq}
use Rattle.std.specs.List.{AllByRecursion, IsDistinct}
use Rattle.std.proofs.lemmas.Map.Keys.{IsDistinct-IsPermutation}
use Rattle.std.proofs.lemmas.Cmp.{tied_itself}
use Rattle.std.proofs.lemmas.List.{length-map}
use Rattle.std.proofs.lemmas.List.Sorted.{IsPermutation-map, IsPermutation-trans, IsPermutation-sym}
use Rattle.std.proofs.lemmas.List.Sorted.{length_permutation}
use Rattle.desk_base.proofs.Orders.{is_eq-reverse}
use Rattle.sqlite_value.specs.declared.keys.Collation.TheVariants.{Binary}
use Rattle.sqlite_value.specs.declared.keys.Key.{Key}
use Rattle.sqlite_value.specs.declared.keys.Order.{Order}
use Rattle.sqlite_value.specs.declared.value.Value.TheVariants.{Null}
use Rattle.sqlite_value.specs.Keys.{ascending, plain}
use Rattle.sqlite_value.specs.Order.{Row, column}
use Rattle.sqlite_trees.specs.Tree.{IsAscending}
use Rattle.sqlite_trees.proofs.ListLemmas.{filter-map, map-map, ascending-filter, ascending-map}
use Rattle.sqlite_trees.proofs.ListLemmas.{ascending_from_map, IsPermutation-filter}
use Rattle.sqlite_keyed.proofs.SortLemmas.{sorted_is-sort_by}
use Rattle.sqlite_sql.specs.Term.{Term, col, eval_all}
use Rattle.sqlite_sql.specs.Query.{Query, Output, output, output_cmp, key_cmp}
use Rattle.sqlite_sql.proofs.QueryLemmas.{output_cmp_total, key_cmp_total}
use Rattle.sqlite_schema.specs.declared.schema.Column.{Column}
use Rattle.sqlite_schema.specs.declared.schema.Table.{Table}
use Rattle.sqlite_schema.specs.declared.command.Command.TheVariants.{Select}
use Rattle.sqlite_catalog.proofs.AlterLemmas.{keys_are_unique}
use Rattle.sqlite_rules.specs.Lists.{Has}
use Rattle.sqlite_rules.proofs.ListLemmas.{all_from, all_has, has_got, has_filtered}
use Rattle.sqlite_rules.proofs.ProbeLemmas.{has_mapped, mapped_has}
use Rattle.sqlite.specs.Effect.{Database, Reads}
use Rattle.sqlite.specs.State.{State, Shown}
use Rattle.sqlite.proofs.Callers.{reads_as}
use Rattle.desk_sql_layout.specs.Layout.{desk_schema, table_of}
use Rattle.desk_sql_layout.specs.Stored.{cells, AreStored}
use Rattle.desk_sql_layout.specs.Held.{HasRows, labelled}
use Rattle.desk_sql_layout.proofs.Declared.{actual, entry, in_tables, tree_is}
use Rattle.desk_sql_layout.proofs.Selecting.{IsSelect, command_here, plain_here, unlisted}
use Rattle.desk_sql_layout.proofs.Edits.{has_permuted}
use Rattle.desk_sql_layout.proofs.Queries.{Selected, query_on, passes, env, selected}
use Rattle.desk_sql_layout.proofs.Ties.{are_keys, keys, picked, ascending_among, sorted_from}
use Rattle.desk_sql_layout.proofs.Ties.{apart_by, apart_by_rowid}

-- ordered by these places of a stored row
abbrev pub order_by : List ℕ → List (Term × Key)
order_by = map (λ p. (col 1 p, ascending Binary))

pub keys_are : (ps : List ℕ) → map (λ (k : Term × Key). k.1) (order_by ps) ≡ keys ps
keys_are [] = refl
keys_are (p ∷ ps) = ap (λ l. ascending Binary ∷ l) (keys_are ps)

picked_is : (ps : List ℕ) (params r : Row)
    → eval_all (map (λ (k : Term × Key). k.0) (order_by ps)) (env params r) ≡ picked ps r
picked_is [] params r = refl
picked_is (p ∷ ps) params r = ap (λ l. column r p ∷ l) (picked_is ps params r)

-- no two of them have the same key
abbrev pub AreApart : List ℕ → List Row → Type 0
AreApart ps = IsAscending (λ a b. is_eq (key_cmp 0 (keys ps) (picked ps a) (picked ps b)) ≡ false)

listed_in : (P : Table → Type 0) (tables : List Table) (place : ℕ) (t : Table)
    → slice_get tables place ≡ Some t → AllByRecursion P tables → P t
listed_in P tables place t is all = all_has P tables t all (has_got tables place t is)

apart_permuted : {X : Type 0} (e : X → X → Bool) → ((x y : X) → e x y ≡ e y x) → (xs ys : List X)
    → IsPermutation xs ys → IsAscending (λ a b. e a b ≡ false) xs
    → IsAscending (λ a b. e a b ≡ false) ys
unfolding IsDistinct
apart_permuted {X} e flips xs ys same apart = back ys
    (IsDistinct-IsPermutation e flips xs ys same (there xs apart))
  where
    there : (xs : List X) → IsAscending (λ a b. e a b ≡ false) xs → IsDistinct e xs
    there [] h = tt
    there (x ∷ xs) h = (h.0, there xs h.1)

    back : (xs : List X) → IsDistinct e xs → IsAscending (λ a b. e a b ≡ false) xs
    back [] h = tt
    back (x ∷ xs) h = (h.0, back xs h.1)

alike : {X : Type 0} (R : X → X → Type 0) (it : X → Row) (k : Row) (xs : List X)
    → ((a b : X) → it a ≡ k → it b ≡ k → R a b) → AllByRecursion (λ x. it x ≡ k) xs
    → IsAscending R xs
alike R it k [] two are = tt
alike {X} R it k (x ∷ xs) two are = (all xs are.1, alike R it k xs two are.1)
  where
    all : (ys : List X) → AllByRecursion (λ y. it y ≡ k) ys → AllByRecursion (R x) ys
    all [] h = tt
    all (y ∷ ys) h = (two x y are.0 h.0, all ys h.1)

module _ (name : List ℕ) (tree : ℕ) (columns : List Column) (key : Option ℕ) (primary : List ℕ)
    (uniques : List (List ℕ)) (orders : List Order) (place : ℕ)
    (listed : slice_get desk_schema.tables place
    ≡ Some (table_of name tree columns key primary uniques orders)) {X : Type 0} (f : X → Row)
    (rows : ℕ → List Row) (xs : List X) (here : rows tree ≡ map f xs) (db : Database)
    (has : HasRows rows db) where
  abbrev this : Table
  this = table_of name tree columns key primary uniques orders

  in_desk : Has desk_schema.tables this
  in_desk = has_got desk_schema.tables place this listed

  pub mine : AreStored this (map f xs) (labelled db tree)
  mine = subst (λ l. AreStored this l (labelled db tree)) here
      (listed_in (λ t. AreStored t (rows t.tree) (labelled db t.tree)) desk_schema.tables place this
      listed has.stored)

  -- the tree of the table in this schema
  abbrev real : ℕ
  real = (entry db.schema has.declared this in_desk).tree

  rows_are : labelled db tree ≡ db.trees real
  rows_are = ap db.trees (tree_is db.schema has.declared this in_desk)

  -- a table whose key is its rowid
  pub by_rowid : AreApart (0 ∷ []) (labelled db tree)
  by_rowid = apart_by_rowid (labelled db tree) mine.rising

  -- a key that is declared unique
  pub by_unique : (at : ℕ) (ps : List ℕ) → slice_get uniques at ≡ Some ps
      → get_or orders at plain ≡ plain → (k : Row → Bool)
      → ((r : Row) → are_keys ps r ≡ k (cells this r)) → ((x : X) → k (f x) ≡ true)
      → AreApart ps (labelled db tree)
  by_unique at ps unique order k keyed are =
      apart_by ps (labelled db tree) mine.rising mine.keyed
      (all_from (λ r. are_keys ps r ≡ true) (labelled db tree) one)
      (λ row there. subst₂ (λ o l. Rattle.sqlite_schema.specs.Rules.clashes o ps l row ≡ false)
      order (sym rows_are)
      (keys_are_unique db.schema db.trees (actual db.schema has.declared this in_desk) at ps row
      has.sound (in_tables db.schema has.declared this in_desk) unique
      (subst (λ l. Has l row) rows_are there)))
    where
      one : (r : Row) → Has (labelled db tree) r → are_keys ps r ≡ true
      one r there =
          let shown : Has (map f xs) (cells this r) =
          has_permuted (map f xs) (map (cells this) (labelled db tree)) (cells this r) mine.same
          (mapped_has (cells this) (labelled db tree) r there) in
          let x = has_mapped f xs (cells this r) shown in
          keyed r ∙ ap k x.2 ∙ are x.0

  -- the rows that pass, no two of which have the same key, shown in the order of the key
  module _ (sql : List ℕ) (names : List (List ℕ)) (tests project : List Term) (ps : List ℕ)
      {parameters : ℕ} (it : IsSelect sql parameters tree tests project (order_by ps) names)
      (params : Row) (q : Row → Bool)
      (u : Row → Output) (p : X → Bool)
      (tested : (r : Row) → passes tests params r ≡ q (cells this r))
      (acts : (r : Row) → output (query_on tree tests project (order_by ps)) (env params r)
      ≡ u (cells this r))
      (picks : (x : X) → q (f x) ≡ p x) where
    abbrev asked : Query
    asked = query_on tree tests project (order_by ps)

    abbrev outs : List Output
    outs = map (λ r. output asked (env params r)) (filter (passes tests params) (labelled db tree))

    abbrev wanted : List Output
    wanted = map (λ x. u (f x)) (filter p xs)

    outs_are : IsPermutation wanted outs
    outs_are =
        let table = cells this in
        let left : map u (filter q (map f xs)) ≡ wanted =
        ap (map u) (filter-map q f xs ∙ (λ i. map f (filter (λ x. picks x i) xs)))
        ∙ map-map u f (filter p xs) in
        let right : map u (filter q (map table (labelled db tree))) ≡ outs =
        ap (map u) (filter-map q table (labelled db tree))
        ∙ map-map u table (filter (λ r. q (table r)) (labelled db tree))
        ∙ sym (λ i. map (λ r. acts r i) (filter (λ r. tested r i) (labelled db tree))) in
        subst₂ (λ a b. IsPermutation a b) left right
        (IsPermutation-map u _ _ (IsPermutation-filter q _ _ mine.same))

    -- all that pass have the same key
    pub at_one_key : (k : Row) → ((x : X) → p x ≡ true → (u (f x)).0 ≡ k)
        → IsAscending (λ a b. is_lt (output_cmp asked (u (f b)) (u (f a))) ≡ false) (filter p xs)
    at_one_key k same =
        let all : AllByRecursion (λ x. (u (f x)).0 ≡ k) (filter p xs) =
        all_from _ (filter p xs) (λ x there. same x (has_filtered p xs x there).1) in
        let it = λ (x : X). (u (f x)).0 in
        alike (λ a b. is_lt (key_cmp 0 (map (λ (k : Term × Key). k.1) (order_by ps)) (it b) (it a))
        ≡ false) it k (filter p xs)
        (λ a b ha hb. rw (
          ha,
          hb,
        ) (ap is_lt (tied_itself (key_cmp_total (map (λ (k : Term × Key). k.1) (order_by ps)) 0)
        k))) all

    -- in any order
    module _ (old new : State) (shown : List Row) (seen : Shown sql params old new shown)
        (same : db ≡ old.now) where
      found : Selected (query_on real tests project (order_by ps)) params (db.trees real) shown
      found =
          let command = command_here it this in_desk refl db.schema has.declared in
          let reads : Reads (Select (record {
            lets = [];
            body = query_on real tests project (order_by ps);
          }) names) old.now params shown =
          reads_as sql params old new db.schema (ap (λ d. d.schema) (sym same))
          (Select (record { lets = []; body = query_on real tests project (order_by ps) }) names)
          command (plain_here it this in_desk refl db.schema has.declared)
          (unlisted it this in_desk refl db.schema has.declared) shown seen in
          subst (λ d. Selected (query_on real tests project (order_by ps)) params
          (d.trees real) shown)
          (sym same) (selected real tests project (order_by ps) old.now.trees params shown
          (reads.answer Null))

      answer : Selected asked params (labelled db tree) shown
      answer =
          let at_real : Selected asked params (db.trees real) shown = record {
            ordered = found.ordered;
            same = found.same;
            sorted = found.sorted;
            shown = found.shown;
          } in
          subst (λ l. Selected asked params l shown) (sym rows_are) at_real

      pub shows_some : IsPermutation (map (λ x. (u (f x)).1) (filter p xs)) shown
      shows_some =
          let out = λ (o : Output). o.1 in
          subst₂ (λ a b. IsPermutation a b) (map-map out (λ x. u (f x)) (filter p xs))
          (sym answer.shown)
          (IsPermutation-map out _ _ (IsPermutation-trans _ _ _ outs_are answer.same))

      pub counts : length shown ≡ length (filter p xs)
      counts = length_permutation _ _ shows_some ∙ length-map (filter p xs) (λ x. (u (f x)).1)

      module _ (apart : AreApart ps (labelled db tree)) where
        no_ties : IsAscending (λ a b. is_eq (output_cmp asked a b) ≡ false) outs
        no_ties =
            ascending-map (λ a b. is_eq (output_cmp asked a b) ≡ false)
            (λ r. output asked (env params r))
            (filter (passes tests params) (labelled db tree))
            (ascending_among _ _ (filter (passes tests params) (labelled db tree))
            (λ a b ha hb h. rw (keys_are ps, picked_is ps params a, picked_is ps params b) h)
            (ascending-filter _ (passes tests params) (labelled db tree) apart))

        -- no two of them have the same key
        pub apart_shown : IsAscending (λ a b. is_eq (output_cmp asked (u (f a)) (u (f b))) ≡ false)
            (filter p xs)
        apart_shown =
            let cmp = output_cmp asked in
            ascending_from_map (λ a b. is_eq (cmp a b) ≡ false) (λ x. u (f x)) (filter p xs)
            (apart_permuted (λ a b. is_eq (cmp a b))
            (λ a b. ap is_eq ((output_cmp_total asked).antisymm a b) ∙ is_eq-reverse (cmp b a)) outs
            wanted
            (IsPermutation-sym _ _ outs_are) no_ties)

        module _ (sorted : IsAscending (λ a b. is_lt (output_cmp asked (u (f b)) (u (f a))) ≡ false)
            (filter p xs)) where
          wanted_sorted : IsAscending (λ a b. is_lt (output_cmp asked b a) ≡ false) wanted
          wanted_sorted =
              ascending-map (λ a b. is_lt (output_cmp asked b a) ≡ false) (λ x. u (f x))
              (filter p xs) sorted

          as_wanted : wanted ≡ answer.ordered
          as_wanted =
              let cmp = output_cmp asked in
              let total = output_cmp_total asked in
              sorted_is-sort_by cmp total outs wanted no_ties (IsPermutation-sym _ _ outs_are)
              (sorted_from cmp wanted wanted_sorted)
              ∙ sym (sorted_is-sort_by cmp total outs answer.ordered no_ties answer.same
              answer.sorted)

          pub shows : shown ≡ map (λ x. (u (f x)).1) (filter p xs)
          shows =
              let out = λ (o : Output). o.1 in
              answer.shown ∙ ap (map out) (sym as_wanted) ∙ map-map out (λ x. u (f x)) (filter p xs)
