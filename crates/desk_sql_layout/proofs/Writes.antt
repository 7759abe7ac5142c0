-- What the tables show after INSERT, DELETE and UPDATE of one of them.
use Rattle.std.proofs.Common.{◌≡◌, inl, inr, ℕ, Bool, true, false, not, List, [], ◌∷◌, ◌++◌}
use Rattle.std.proofs.Common.{map, filter, drop, Option, refl, sym, ap, subst}
use Rattle.std.proofs.Common.{subst₂, ◌∙◌}
use Rattle.std.specs.List.{AllByRecursion, AllZip}
use Rattle.std.specs.List.Sorted.{IsPermutation}
use Rattle.std.proofs.lemmas.Bool.{and_parts, cases_Bool}
use Rattle.std.proofs.lemmas.List.Sorted.{IsPermutation-map, IsPermutation-trans, IsPermutation-sym}
use Rattle.std.proofs.lemmas.List.Sorted.{IsPermutation-middle}
use Rattle.sqlite_value.specs.declared.keys.Order.{Order}
use Rattle.sqlite_value.specs.declared.value.Value.TheVariants.{Null, Int}
use Rattle.sqlite_value.specs.Order.{Row}
use Rattle.sqlite_trees.specs.Tree.{Trees, rowid, put_row, IsAscending}
use Rattle.sqlite_trees.specs.View.{is_int}
use Rattle.sqlite_trees.proofs.ListLemmas.{map-map}
use Rattle.sqlite_sql.specs.Term.{Term, col, eval_all}
use Rattle.sqlite_sql.specs.Query.{Output, output}
use Rattle.sqlite_schema.specs.declared.schema.Column.{Column}
use Rattle.sqlite_schema.specs.declared.schema.Table.{Table}
use Rattle.sqlite_schema.specs.declared.schema.Schema.{Schema}
use Rattle.sqlite_rules.specs.declared.error.Rowids.TheVariants.{Chosen, Given}
use Rattle.sqlite_rules.specs.Cast.{cast_row}
use Rattle.sqlite_rules.specs.Edit.{id_in, edit_of, with_rowid, numbered, is_taken, are_fresh}
use Rattle.sqlite_rules.specs.Edit.{put_all, without_all, have_rowids}
use Rattle.sqlite_rules.specs.Calls.{ids_of}
use Rattle.sqlite_rules.proofs.ListLemmas.{all_has, all_from, test_has, has_filtered, has_kept}
use Rattle.sqlite_rules.proofs.ProbeLemmas.{has_mapped, mapped_has}
use Rattle.sqlite_rules.proofs.PlaceLemmas.{given}
use Rattle.sqlite_rules.proofs.TableLemmas.{int_is}
use Rattle.sqlite.specs.Effect.{Database, Answers}
use Rattle.desk_sql_layout.specs.Layout.{table_of}
use Rattle.desk_sql_layout.specs.Stored.{cells, AreStored}
use Rattle.desk_sql_layout.proofs.Edits.{AreIdsOf, left_is, has_permuted, changed_where}
use Rattle.desk_sql_layout.proofs.Queries.{query_on, passes, env, selected}
use Rattle.desk_sql_layout.proofs.Keeps.{stored_more, stored_less, stored_changed}
use Rattle.desk_sql_layout.proofs.Steps.{Stepped, at}

-- each table has a different tree
abbrev pub AreApart : Schema → Type 0
AreApart schema = IsAscending (λ a b. a.tree ≡ b.tree → ⊥) schema.tables

pub stored_as : (t : Table) (rows other stored : List Row) → IsPermutation other rows
    → AreStored t rows stored → AreStored t other stored
stored_as t rows other stored same are = record {
  rising = are.rising;
  keyed = are.keyed;
  same = IsPermutation-trans _ _ _ same are.same;
}

-- the rowids that a query showed first
pub ids_are : (p : Row → Bool) (g : Row → Row) (stored rows : List Row)
    → ((r : Row) → rowid (g r) ≡ rowid r) → AllByRecursion (λ r. is_int (rowid r) ≡ true) stored
    → IsPermutation (map g (filter p stored)) rows → AreIdsOf p stored (ids_of rows)
ids_are p g stored rows first keyed same = record {
  sound = λ id there.
      let x = has_mapped (λ r. id_in (rowid r)) rows id there in
      let y = has_mapped g (filter p stored) x.0 (has_permuted _ _ x.0 same x.1) in
      let z = has_filtered p stored y.0 y.1 in
      let whole = int_is (rowid y.0)
      (all_has (λ r. is_int (rowid r) ≡ true) stored y.0 keyed z.0) in (
        y.0,
        z.0,
        z.1,
        whole ∙ ap (λ v. Int (id_in v)) (sym (first y.0))
            ∙ ap (λ r. Int (id_in (rowid r))) (sym y.2) ∙ ap Int (sym x.2),
      );
  complete = λ r there yes.
      let shown = mapped_has g (filter p stored) r (has_kept p stored r there yes) in
      let got = has_permuted rows (map g (filter p stored)) (g r) (IsPermutation-sym _ _ same)
      shown in (
        id_in (rowid (g r)),
        mapped_has (λ x. id_in (rowid x)) rows (g r) got,
        int_is (rowid r) (all_has (λ r. is_int (rowid r) ≡ true) stored r keyed there)
            ∙ ap (λ v. Int (id_in v)) (sym (first r)),
      );
}

-- the rows that a query shows, each behind its rowid
pub shown_by : (schema : Schema) (trees : Trees) (tree : ℕ) (tests project : List Term)
    (params : Row) (found : List Row)
    → Answers (at schema trees)
    (record { lets = []; body = query_on tree tests (col 1 0 ∷ project) [] }) params found
    → IsPermutation (map (λ r. rowid r ∷ eval_all project (env params r))
    (filter (passes tests params) (trees tree))) found
shown_by schema trees tree tests project params found answers =
    let query = query_on tree tests (col 1 0 ∷ project) [] in
    let rows = filter (passes tests params) (trees tree) in
    let sel = selected tree tests (col 1 0 ∷ project) [] trees params found
    (answers.answer Null) in
    subst₂ (λ xs ys. IsPermutation xs ys)
    (map-map (λ (o : Output). o.1) (λ r. output query (env params r)) rows) (sym sel.shown)
    (IsPermutation-map (λ (o : Output). o.1) _ _ sel.same)

-- the rows that are left without those that a query shows
pub left_by : (schema : Schema) (trees : Trees) (tree : ℕ) (tests project : List Term)
    (params : Row) (found : List Row)
    → Answers (at schema trees)
    (record { lets = []; body = query_on tree tests (col 1 0 ∷ project) [] }) params found
    → (t : Table) (rows : List Row) → AreStored t rows (trees tree)
    → without_all (trees tree) (ids_of found)
    ≡ filter (λ r. not (passes tests params r)) (trees tree)
left_by schema trees tree tests project params found answers t rows are =
    let p = passes tests params in
    left_is p (trees tree) (ids_of found) are.rising
    (ids_are p (λ r. rowid r ∷ eval_all project (env params r)) (trees tree) found (λ r. refl)
    are.keyed (shown_by schema trees tree tests project params found answers))

module _ (name : List ℕ) (tree : ℕ) (columns : List Column) (key : Option ℕ) (primary : List ℕ)
    (uniques : List (List ℕ)) (orders : List Order) where
  abbrev this : Table
  this = table_of name tree columns key primary uniques orders

  -- each source is this row, whatever rowid is chosen for it
  abbrev pub Shows : List Row → List Row → Type 0
  Shows = AllZip (λ source wanted. (stored : List Row)
      → cells this (with_rowid Chosen stored (cast_row this source)) ≡ wanted)

  abbrev cast : List Row → List Row
  cast = map (λ source. cast_row this (drop 0 source))

  put_each : (sources wanted shown stored : List Row) → AreStored this shown stored
      → Shows sources wanted → have_rowids (numbered Chosen stored (cast sources)) ≡ true
      → are_fresh stored (numbered Chosen stored (cast sources)) ≡ true
      → AreStored this (wanted ++ shown) (put_all stored (numbered Chosen stored (cast sources)))
  put_each [] [] shown stored are shows keyed fresh = are
  put_each [] (w ∷ wanted) shown stored are shows keyed fresh = absurd shows
  put_each (s ∷ sources) [] shown stored are shows keyed fresh = absurd shows
  put_each (s ∷ sources) (w ∷ wanted) shown stored are shows keyed fresh =
      let new_row = with_rowid Chosen stored (cast_row this s) in
      let rest = numbered Chosen (put_row new_row stored) (cast sources) in
      let apart = and_parts (not (is_taken stored new_row))
      (are_fresh (put_row new_row stored) rest) fresh in
      let whole = and_parts (is_int (rowid new_row)) (have_rowids rest) keyed in
      let free : is_taken stored new_row ≡ false = elim (cases_Bool (is_taken stored new_row)) [
        | inl taken ↦ absurd (let e = rw taken at apart.0 in cc)
        | inr free ↦ free
      ] in
      let more = stored_more this shown stored are new_row free whole.0 in
      stored_as this (wanted ++ w ∷ shown) (w ∷ wanted ++ shown) (put_all stored (new_row ∷ rest))
      (IsPermutation-sym _ _ (IsPermutation-middle wanted w shown))
      (put_each sources wanted (w ∷ shown) (put_row new_row stored)
      (subst (λ x. AreStored this (x ∷ shown) (put_row new_row stored)) (shows.0 stored) more)
      shows.1 whole.1 apart.1)

  module _ (schema : Schema) (shown : List Row) (old new : Database)
      (mine : AreStored this shown (old.trees tree)) where
    pub after_insert : (sources wanted : List Row) → Shows sources wanted
        → Stepped schema old new (edit_of old.trees this [] Chosen 0 sources)
        → AreStored this (wanted ++ shown) (new.trees tree)
    after_insert sources wanted shows step =
        subst (AreStored this (wanted ++ shown)) (sym step.applies.rows)
        (put_each sources wanted shown (old.trees tree) mine shows step.applies.keyed
        step.applies.fresh)

    pub after_delete : (tests : List Term) (params : Row) (found : List Row) (q : Row → Bool)
        → ((r : Row) → passes tests params r ≡ q (cells this r))
        → Answers (at schema old.trees)
        (record { lets = []; body = query_on tree tests (col 1 0 ∷ []) [] }) params found
        → Stepped schema old new (edit_of old.trees this (ids_of found) Given 0 [])
        → AreStored this (filter (λ x. not (q x)) shown) (new.trees tree)
    after_delete tests params found q agree answers step =
        let stored = old.trees tree in
        let left = left_by schema old.trees tree tests [] params found answers this shown mine in
        subst (AreStored this (filter (λ x. not (q x)) shown)) (sym (step.applies.rows ∙ left))
        (stored_less this shown stored mine (passes tests params) q agree)

    pub after_update : (tests project : List Term) (params : Row) (found : List Row)
        (q : Row → Bool) (u : Row → Row) → ((r : Row) → passes tests params r ≡ q (cells this r))
        → ((r : Row) → cells this (cast_row this (eval_all project (env params r)))
        ≡ u (cells this r))
        → Answers (at schema old.trees)
        (record { lets = []; body = query_on tree tests (col 1 0 ∷ project) [] }) params found
        → Stepped schema old new (edit_of old.trees this (ids_of found) Given 1 found)
        → AreStored this (changed_where q u shown) (new.trees tree)
    after_update tests project params found q u agree acts answers step =
        let stored = old.trees tree in
        let p = passes tests params in
        let g = λ (r : Row). rowid r ∷ eval_all project (env params r) in
        let f = λ (r : Row). cast_row this (eval_all project (env params r)) in
        let seen = shown_by schema old.trees tree tests project params found answers in
        let left = left_by schema old.trees tree tests project params found answers this
        shown mine in
        let cast = λ (s : Row). cast_row this (drop 1 s) in
        let edit = edit_of old.trees this (ids_of found) Given 1 found in
        let news : edit.news ≡ map cast found =
        given (without_all stored (ids_of found)) (map cast found) in
        let same : IsPermutation (map f (filter p stored)) (map cast found) =
        subst (λ xs. IsPermutation xs (map cast found)) (map-map cast g (filter p stored))
        (IsPermutation-map cast _ _ seen) in
        let keyed : AllByRecursion (λ r. is_int (rowid r) ≡ true) (map cast found) =
        all_from (λ r. is_int (rowid r) ≡ true) (map cast found)
        (λ x there. test_has (λ r. is_int (rowid r)) (map cast found) x
        (subst (λ l. have_rowids l ≡ true) news step.applies.keyed) there) in
        let fresh : are_fresh (filter (λ r. not (p r)) stored) (map cast found) ≡ true =
        subst₂ (λ l n. are_fresh l n ≡ true) left news step.applies.fresh in
        let whole : new.trees tree ≡ put_all (filter (λ r. not (p r)) stored) (map cast found) =
        subst₂ (λ l n. new.trees tree ≡ put_all l n) left news step.applies.rows in
        subst (AreStored this (changed_where q u shown)) (sym whole)
        (stored_changed this shown stored mine p q f u (map cast found) agree acts same keyed fresh)
