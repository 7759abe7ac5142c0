-- A table that is created comes last, and the tables of a desk that a schema has stay.
use Rattle.std.proofs.Common.{◌≡◌, ◌∙◌, ◌<◌, ℕ, ◌+◌, Bool, true, false, not, List}
use Rattle.std.proofs.Common.{[], ◌∷◌, slice_get, length, Some, refl, ap}
use Rattle.std.proofs.Common.{subst, arith}
use Rattle.std.specs.Prelude.{◌==◌, ◌||◌, find, option_and_then, option_map}
use Rattle.std.specs.Prelude.{unwrap_or}
use Rattle.std.specs.List.{AllByRecursion, list_all}
use Rattle.std.proofs.lemmas.Bool.Decides.{nat_tests}
use Rattle.sqlite_schema.specs.declared.schema.Index.{Index}
use Rattle.sqlite_schema.specs.declared.schema.Schema.{Schema}
use Rattle.sqlite_schema.specs.declared.schema.Table.{Table}
use Rattle.sqlite_schema.specs.Names.{same_name}
use Rattle.sqlite_catalog.specs.Change.{automatics, created, is_used, next_tree}
use Rattle.sqlite_catalog.specs.Listing.{IsIndexRow, IsSound}
use Rattle.sqlite_catalog.proofs.LayoutLemmas.{index_owner, zipped_left}
use Rattle.sqlite_catalog.proofs.StepLemmas.{no_table, same_itself, table_below}
use Rattle.sqlite_rules.specs.Lists.{Has}
use Rattle.sqlite_rules.proofs.ListLemmas.{all_from, has_got, test_from, test_has}
use Rattle.sqlite.specs.Effect.{Database, IsDatabase}
use Rattle.desk_sql_layout.specs.Desk.{HasTable, found_as, is_harmless, tree_in, tree_named}
use Rattle.desk_sql_layout.specs.Layout.{desk_schema}
use Rattle.desk_sql_layout.proofs.Declared.{name_is}
use Rattle.desk_sql_layout.proofs.More.{all_both, find_last, find_more, got_last, got_more}
use Rattle.desk_sql_layout.proofs.More.{place_last, place_more}

either : (b : Bool) → (b || true) ≡ true
either true = refl
either false = refl

-- ---- one more table

module _ (schema : Schema) (table : Table) where
  abbrev pub newest : Table
  newest = record table { tree = next_tree schema }

  abbrev after : Schema
  after = created schema table

  -- its indexes are of no other table
  others : (tree : ℕ) (p : Index → Bool) → (next_tree schema == tree) ≡ false
      → (keys : List (List ℕ)) (at n : ℕ)
      → list_all (λ index. not (index.table == tree) || p index) (automatics newest at n keys)
      ≡ true
  others tree p apart [] at n = refl
  others tree p apart (key ∷ keys) at n = rw apart (others tree p apart keys (at + 1) (n + 1))

  -- a table of a desk that the schema has
  module _ (t : Table) (it : HasTable schema t) where
    apart : (next_tree schema == it.tree) ≡ false
    apart = let below : it.tree < next_tree schema =
        table_below schema (found_as t it.tree it.not_null)
        (has_got schema.tables it.place (found_as t it.tree it.not_null) it.listed) in
        grind (arith, nat_tests)

    still : HasTable after t
    still = record {
      place = it.place;
      tree = it.tree;
      not_null = it.not_null;
      named = place_more (λ t. same_name t.name _) schema.tables (newest ∷ []) 0 it.place it.named;
      listed = got_more schema.tables (newest ∷ []) it.place (found_as t it.tree it.not_null)
          it.listed;
      own = find_more (λ t. t.tree == it.tree) schema.tables (newest ∷ [])
          (found_as t it.tree it.not_null) it.own;
      stored = it.stored;
      harmless = all_both (λ index. not (index.table == it.tree) || is_harmless t index)
          schema.indexes (automatics newest 0 (newest.tree + 1) newest.uniques) it.harmless
          (others it.tree (is_harmless t) apart newest.uniques 0 (newest.tree + 1));
    }

    pub stays : (has : HasTable after t) × (has.tree ≡ it.tree)
    unfolding still
    stays = (still, refl)

  -- and the new one, if it is a table of a desk
  module _ (t : Table) (is : newest ≡ found_as t (next_tree schema) true)
      (free : is_used schema t.name ≡ false) (old : Database) (has : old.schema ≡ schema)
      (sound : IsDatabase old) (low : next_tree schema < 65536)
      (alike : (n : ℕ) → list_all (is_harmless t) (automatics newest 0 n newest.uniques) ≡ true) where
    abbrev n : ℕ
    n = next_tree schema

    named_so : same_name newest.name t.name ≡ true
    named_so = ap (λ (u : Table). same_name u.name t.name) is ∙ same_itself t.name

    trees : AllByRecursion (λ (u : Table). (u.tree == n) ≡ false) schema.tables
    trees = all_from (λ (u : Table). (u.tree == n) ≡ false) schema.tables (λ u there.
        let below : u.tree < n = table_below schema u there in grind (arith, nat_tests))

    itself : (n == n) ≡ true
    itself = grind (arith, nat_tests)

    -- no index was waiting for it
    no_index : (i : Index) → Has schema.indexes i → (not (i.table == n) || is_harmless t i) ≡ true
    no_index i there =
        let lists = subst (λ s. IsSound s old.trees) has sound in
        let row = zipped_left (IsIndexRow schema.tables) _ schema.indexes i
        lists.lists.listed.indexes there in
        let it = row.2 in
        let below : it.table.tree < n = table_below schema it.table it.listed in
        let owner : i.table ≡ it.table.tree = index_owner it.table i _ it.defined in
        let apart : (i.table == n) ≡ false = grind (arith, nat_tests) in
        rw apart refl

    abbrev fits : Index → Bool
    fits index = not (index.table == n) || is_harmless t index

    -- its own are harmless
    own_index : (i : Index) → Has (automatics newest 0 (newest.tree + 1) newest.uniques) i
        → fits i ≡ true
    own_index i there =
        ap (λ b. not (i.table == n) || b)
        (test_has (is_harmless t) (automatics newest 0 (newest.tree + 1) newest.uniques) i
        (alike (newest.tree + 1)) there) ∙ either (not (i.table == n))

    made : HasTable after t
    made =
        let first : 0 + length schema.tables ≡ length schema.tables = omega arith in
        record {
          place = length schema.tables;
          tree = n;
          not_null = true;
          named = place_last (λ u. same_name u.name t.name) schema.tables newest 0
              (no_table schema t.name free) named_so ∙ ap Some first;
          listed = got_last schema.tables newest ∙ ap Some is;
          own = find_last (λ u. u.tree == n) schema.tables newest trees itself ∙ ap Some is;
          stored = let m : n < 65536 = low in grind (arith, nat_tests);
          harmless = all_both fits schema.indexes
              (automatics newest 0 (newest.tree + 1) newest.uniques)
              (test_from fits schema.indexes no_index)
              (test_from fits (automatics newest 0 (newest.tree + 1) newest.uniques) own_index);
        }

    pub comes : (has : HasTable after t) × (has.tree ≡ n)
    unfolding made
    comes = (made, refl)

-- ---- the tree by which a table is found

module _ (schema : Schema) (t : Table) (there : Has desk_schema.tables t)
    (it : HasTable schema t) where
  pub tree_of : tree_in schema t.tree ≡ it.tree
  unfolding tree_in
  tree_of =
      ap (tree_named schema) (name_is t there)
      ∙ ap (λ at. unwrap_or (option_map (λ (t : Table). t.tree)
      (option_and_then (slice_get schema.tables) at)) 0) it.named
      ∙ ap (λ o. unwrap_or (option_map (λ (t : Table). t.tree) o) 0) it.listed
