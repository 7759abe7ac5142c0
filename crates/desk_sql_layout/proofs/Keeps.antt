-- What an edit makes of the rows that a table shows.
use Rattle.std.proofs.Common.{◌≡◌, ◌≢◌, ℕ, Bool, true, false, not, List, [], ◌∷◌, ◌++◌, map, filter}
use Rattle.std.proofs.Common.{refl, sym, ap, ◌∙◌, arith}
use Rattle.std.specs.Prelude.{if◌then◌else◌, ◌==◌}
use Rattle.std.specs.List.{AllByRecursion}
use Rattle.std.specs.List.Sorted.{IsPermutation}
use Rattle.std.proofs.lemmas.List.{map-append}
use Rattle.std.proofs.lemmas.Bool.Decides.{nat_tests}
use Rattle.std.proofs.lemmas.List.Sorted.{IsPermutation-cons, IsPermutation-trans}
use Rattle.std.proofs.lemmas.List.Sorted.{IsPermutation-map, IsPermutation-append_left}
use Rattle.sqlite_value.specs.Order.{Row}
use Rattle.sqlite_trees.specs.Tree.{rowid, put_row, IsTable}
use Rattle.sqlite_trees.specs.View.{is_int}
use Rattle.sqlite_trees.proofs.ListLemmas.{filter-map, map-map, all-filter, ascending-filter}
use Rattle.sqlite_trees.proofs.ListLemmas.{IsPermutation-filter, IsPermutation-same}
use Rattle.sqlite_trees.proofs.TreeLemmas.{all-put_row, IsTable-put_row}
use Rattle.sqlite_schema.specs.declared.schema.Table.{Table}
use Rattle.sqlite_schema.specs.declared.schema.Schema.{Schema}
use Rattle.sqlite_rules.specs.Edit.{is_taken, are_fresh, put_all}
use Rattle.desk_sql_layout.specs.Stored.{cells, AreStored, AllStored}
use Rattle.desk_sql_layout.proofs.Edits.{put_fresh, put_all_fresh, changed_where, changed_parts}

module _ (table : Table) (rows stored : List Row) (are : AreStored table rows stored) where
  pub stored_more : (new : Row) → is_taken stored new ≡ false → is_int (rowid new) ≡ true
      → AreStored table (cells table new ∷ rows) (put_row new stored)
  stored_more new free keyed = record {
    rising = IsTable-put_row new stored are.rising;
    keyed = all-put_row (λ r. is_int (rowid r) ≡ true) new stored keyed are.keyed;
    same = IsPermutation-trans _ _ _ (IsPermutation-cons (cells table new) _ _ are.same)
        (IsPermutation-map (cells table) _ _ (put_fresh new stored free));
  }

  pub stored_less : (p q : Row → Bool) → ((r : Row) → p r ≡ q (cells table r))
      → AreStored table (filter (λ x. not (q x)) rows) (filter (λ r. not (p r)) stored)
  stored_less p q agree =
      let left : filter (λ r. not (q (cells table r))) stored ≡ filter (λ r. not (p r)) stored =
      sym (λ i. filter (λ r. not (agree r i)) stored) in
      record {
        rising = ascending-filter _ (λ r. not (p r)) stored are.rising;
        keyed = all-filter (λ r. is_int (rowid r) ≡ true) (λ r. not (p r)) stored are.keyed;
        same = IsPermutation-trans _ _ _ (IsPermutation-filter (λ x. not (q x)) _ _ are.same)
            (IsPermutation-same _ _ (filter-map (λ x. not (q x)) (cells table) stored
            ∙ ap (map (cells table)) left));
      }

  put_all_keyed : (news left : List Row) → IsTable left
      → AllByRecursion (λ r. is_int (rowid r) ≡ true) left
      → AllByRecursion (λ r. is_int (rowid r) ≡ true) news
      → IsTable (put_all left news)
      × AllByRecursion (λ r. is_int (rowid r) ≡ true) (put_all left news)
  put_all_keyed [] left up keyed new = (up, keyed)
  put_all_keyed (n ∷ news) left up keyed new = put_all_keyed news (put_row n left)
      (IsTable-put_row n left up) (all-put_row (λ r. is_int (rowid r) ≡ true) n left new.0 keyed)
      new.1

  pub stored_changed : (p q : Row → Bool) (f u : Row → Row) (news : List Row)
      → ((r : Row) → p r ≡ q (cells table r)) → ((r : Row) → cells table (f r) ≡ u (cells table r))
      → IsPermutation (map f (filter p stored)) news
      → AllByRecursion (λ r. is_int (rowid r) ≡ true) news
      → are_fresh (filter (λ r. not (p r)) stored) news ≡ true
      → AreStored table (changed_where q u rows) (put_all (filter (λ r. not (p r)) stored) news)
  stored_changed p q f u news agree acts given keyed fresh =
      let left = filter (λ r. not (p r)) stored in
      let both = put_all_keyed news left (ascending-filter _ (λ r. not (p r)) stored are.rising)
      (all-filter (λ r. is_int (rowid r) ≡ true) (λ r. not (p r)) stored are.keyed) keyed in
      let shown = map (cells table) stored in
      let passed : map u (filter q shown) ≡ map (cells table) (map f (filter p stored)) =
      ap (map u) (filter-map q (cells table) stored)
      ∙ map-map u (cells table) (filter (λ r. q (cells table r)) stored)
      ∙ sym (λ i. map (λ r. acts r i) (filter (λ r. agree r i) stored))
      ∙ sym (map-map (cells table) f (filter p stored)) in
      let kept : filter (λ x. not (q x)) shown ≡ map (cells table) left =
      filter-map (λ x. not (q x)) (cells table) stored
      ∙ sym (λ i. map (cells table) (filter (λ r. not (agree r i)) stored)) in
      let whole : map u (filter q shown) ++ filter (λ x. not (q x)) shown ≡ map (cells table) (map f
      (filter p stored) ++ left) =
      (λ i. passed i ++ kept i) ∙ sym (map-append (cells table) (map f (filter p stored)) left) in
      record {
        rising = both.0;
        keyed = both.1;
        same =
            IsPermutation-trans _ _ _ (IsPermutation-map (λ x. if q x then u x else x) _ _ are.same)
            (IsPermutation-trans _ _ _ (changed_parts q u shown)
            (IsPermutation-trans _ _ _ (IsPermutation-same _ _ whole)
            (IsPermutation-map (cells table) _ _
            (IsPermutation-trans _ _ _ (IsPermutation-append_left left _ _ given)
            (put_all_fresh news left fresh)))));
      }

-- ---- the other tables

pub all_stored_after : (schema : Schema) (rows after : ℕ → List Row) (old new : ℕ → List Row)
    (tree : ℕ)
    → AllStored schema rows old
    → AllByRecursion (λ t. t.tree ≢ tree → new t.tree ≡ old t.tree) schema.tables
    → AllByRecursion (λ t. t.tree ≢ tree → after t.tree ≡ rows t.tree) schema.tables
    → AllByRecursion (λ t. t.tree ≡ tree → AreStored t (after t.tree) (new t.tree)) schema.tables
    → AllStored schema after new
all_stored_after schema rows after old new tree were kept same here = each schema.tables were kept
    same here
  where
    one : (t : Table) → AreStored t (rows t.tree) (old t.tree)
        → (t.tree ≢ tree → new t.tree ≡ old t.tree) → (t.tree ≢ tree → after t.tree ≡ rows t.tree)
        → (t.tree ≡ tree → AreStored t (after t.tree) (new t.tree)) → (b : Bool)
        → (t.tree == tree) ≡ b → AreStored t (after t.tree) (new t.tree)
    one t was k s h true is = h (grind (arith, nat_tests))
    one t was k s h false is = let apart : t.tree ≢ tree = (λ e. grind (arith, nat_tests)) in
        rw (k apart, s apart) was

    each : (tables : List Table) → AllByRecursion (λ t. AreStored t (rows t.tree) (old t.tree))
        tables → AllByRecursion (λ t. t.tree ≢ tree → new t.tree ≡ old t.tree) tables
        → AllByRecursion (λ t. t.tree ≢ tree → after t.tree ≡ rows t.tree) tables
        → AllByRecursion (λ t. t.tree ≡ tree → AreStored t (after t.tree) (new t.tree)) tables
        → AllByRecursion (λ t. AreStored t (after t.tree) (new t.tree)) tables
    each [] a b c d = tt
    each (t ∷ tables) a b c d = (
      one t a.0 b.0 c.0 d.0 (t.tree == tree) refl,
      each tables a.1 b.1 c.1 d.1,
    )
