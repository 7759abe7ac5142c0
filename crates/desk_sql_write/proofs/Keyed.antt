-- If each unique key appears once among the rows that a table shows, no index refuses the table's
-- rows.
use Rattle.std.proofs.Common.{◌≡◌, ◌∙◌, inl, inr, ℕ, ◌≤◌, Bool, true, false, not, cond, List, []}
use Rattle.std.proofs.Common.{◌∷◌, filter, length, refl, sym, ap, subst, arith}
use Rattle.std.specs.Prelude.{◌&&◌, ◌||◌, ◌==◌, nat_le}
use Rattle.std.specs.List.{AllByRecursion, list_all, list_any}
use Rattle.std.proofs.lemmas.Bool.{and_from, and_parts, cases_Bool}
use Rattle.std.proofs.lemmas.Bool.Decides.{nat_tests}
use Rattle.std.proofs.lemmas.Cmp.{tied_itself}
use Rattle.std.proofs.lemmas.List.{length-map}
use Rattle.std.proofs.lemmas.List.Sorted.{length_permutation}
use Rattle.sqlite_value.specs.declared.keys.Collation.{Collation}
use Rattle.sqlite_value.specs.declared.keys.Collation.TheVariants.{Binary, NoCase, RTrim}
use Rattle.sqlite_value.specs.declared.keys.Order.{Order}
use Rattle.sqlite_value.specs.declared.value.Value.{Value}
use Rattle.sqlite_value.specs.declared.value.Value.TheVariants.{Int}
use Rattle.sqlite_value.specs.Keys.{collation_code, first_key, later, plain}
use Rattle.sqlite_value.specs.Order.{Row, column}
use Rattle.sqlite_value.proofs.OrderLemmas.{value_cmp_total}
use Rattle.sqlite_trees.specs.Tree.{Trees, rowid, with_tree}
use Rattle.sqlite_trees.specs.View.{is_int}
use Rattle.sqlite_trees.proofs.ListLemmas.{filter-map, IsPermutation-filter}
use Rattle.sqlite_sql.specs.Ops.{binary}
use Rattle.sqlite_schema.specs.declared.schema.Constraint.TheVariants.{Unique}
use Rattle.sqlite_schema.specs.declared.schema.Index.{Index}
use Rattle.sqlite_schema.specs.declared.schema.Schema.{Schema}
use Rattle.sqlite_schema.specs.declared.schema.Table.{Table}
use Rattle.sqlite_schema.specs.Rules.{Keeps, agree, clashes, differ, equal, guards, passes}
use Rattle.sqlite_rules.specs.Edit.{id_in}
use Rattle.sqlite_rules.specs.Lists.{Has}
use Rattle.sqlite_rules.proofs.KeyLemmas.{agree_back, agree_chain}
use Rattle.sqlite_rules.proofs.ListLemmas.{all_has, has_kept, some_has, test_from, test_has}
use Rattle.sqlite_rules.proofs.RuleLemmas.{keeps_at, keeps_from}
use Rattle.sqlite_rules.proofs.TableLemmas.{int_is}
use Rattle.desk_sql_layout.specs.Desk.{HasDesk, includes, is_bytewise, is_harmless}
use Rattle.desk_sql_layout.specs.Layout.{desk_schema}
use Rattle.desk_sql_layout.specs.Stored.{cells, AreStored}
use Rattle.desk_sql_layout.proofs.Declared.{entry}
use Rattle.desk_sql_write.specs.Taking.{in_cells, StandsOnce}

-- ---- an index of a desk's table

other_holds : (a b : Bool) → (not a || b) ≡ true → a ≡ true → b ≡ true
other_holds true b h is = h
other_holds false b h is = absurd (cc)

module _ (schema : Schema) (desk : HasDesk schema) (t : Table) (listed : Has desk_schema.tables t)
    (i : Index) (has : Has schema.indexes i) (of : i.table ≡ (entry schema desk t listed).tree)
  where
    harmless : is_harmless t i ≡ true
    harmless =
        let tree = (entry schema desk t listed).tree in
        let mine : (i.table == tree) ≡ true = grind (arith, nat_tests, of) in
        other_holds (i.table == tree) (is_harmless t i)
        (test_has (λ index. not (index.table == tree) || is_harmless t index) schema.indexes i
        (entry schema desk t listed).harmless has) mine

    pub narrow : length i.columns ≤ 8
    narrow =
        let it = (and_parts (nat_le (length i.columns) 8) _ harmless).0 in grind (arith, nat_tests)

    repeats : i.is_unique ≡ true → (is_bytewise i.columns i.order ≡ true)
        × (list_any (includes i.columns) (t.primary ∷ t.uniques) ≡ true)
    repeats unique = and_parts (is_bytewise i.columns i.order) _
        (other_holds i.is_unique _ (and_parts (nat_le (length i.columns) 8) _ harmless).1 unique)

-- ---- rows that agree in more columns agree in fewer

by_bytes : (c : Collation) → (collation_code c == 0) ≡ true → c ≡ Binary
by_bytes Binary h = refl
by_bytes NoCase h = absurd (cc)
by_bytes RTrim h = absurd (cc)

equal_at : (o : Order) (places : List ℕ) (a b : Row) → agree o places a places b ≡ true
    → is_bytewise places o ≡ true → (k : ℕ) → list_any (λ other. other == k) places ≡ true
    → equal Binary (column a k) (column b k) ≡ true
equal_at o [] a b agrees bytes k there = absurd (cc)
equal_at o (p ∷ places) a b agrees bytes k there =
    let how = (first_key o).collation in
    let both = and_parts (equal how (column a p) (column b p)) (agree (later o) places a places b)
    agrees in
    let all = and_parts (collation_code how == 0) (is_bytewise places (later o)) bytes in
    go (equal_at (later o) places a b both.1 all.1 k) (p == k) refl there
    (subst (λ c. equal c (column a p) (column b p) ≡ true) (by_bytes how all.0) both.0)
  where
    go : (list_any (λ other. other == k) places ≡ true
        → equal Binary (column a k) (column b k) ≡ true) → (c : Bool) → (p == k) ≡ c
        → (c || list_any (λ other. other == k) places) ≡ true
        → equal Binary (column a p) (column b p) ≡ true
        → equal Binary (column a k) (column b k) ≡ true
    go more true is there here = let same : p ≡ k = grind (arith, nat_tests, is) in
        subst (λ n. equal Binary (column a n) (column b n) ≡ true) same here
    go more false is there here = more there

agree_within : (o : Order) (places key : List ℕ) (a b : Row) → agree o places a places b ≡ true
    → is_bytewise places o ≡ true → includes places key ≡ true → agree plain key a key b ≡ true
unfolding first_key
agree_within o places [] a b agrees bytes included = refl
agree_within o places (k ∷ key) a b agrees bytes included =
    let both = and_parts (list_any (λ other. other == k) places) (includes places key) included in
    and_from _ _ (equal_at o places a b agrees bytes k both.0)
    (agree_within o places key a b agrees bytes both.1)

-- the keys of a table are compared in its cells
keys_same : AllByRecursion (λ (t : Table). AllByRecursion (λ key. (a b : Row)
    → agree plain key a key b
    ≡ agree plain (in_cells key) (cells t a) (in_cells key) (cells t b)) (t.primary ∷ t.uniques))
    desk_schema.tables
keys_same = assumption

-- ---- a row for each key

pub some_there : {X : Type 0} (xs : List X) (x : X) → Has xs x → 1 ≤ length xs
some_there [] x there = absurd there
some_there (y ∷ xs) x there = omega arith

-- two different rows that pass
pub two_pass : {X : Type 0} (p : X → Bool) (xs : List X) (a b : X) → Has xs a → Has xs b
    → p a ≡ true → p b ≡ true → (a ≡ b → ⊥) → 2 ≤ length (filter p xs)
two_pass p [] a b here there one two other = absurd here
two_pass p (x ∷ xs) a b (inl here) (inl there) one two other = absurd (other (here ∙ sym there))
two_pass p (x ∷ xs) a b (inl here) (inr there) one two other = rw (← here, one)
    (omega (arith, some_there _ b (has_kept p xs b there two)))
two_pass p (x ∷ xs) a b (inr here) (inl there) one two other = rw (← there, two)
    (omega (arith, some_there _ a (has_kept p xs a here one)))
two_pass p (x ∷ xs) a b (inr here) (inr there) one two other = go
    (two_pass p xs a b here there one two other) (p x)
  where
    go : 2 ≤ length (filter p xs) → (c : Bool) → 2 ≤ length (cond c (x ∷ filter p xs) (filter p xs))
    go more true = omega (arith, more)
    go more false = more

differ_itself : (v : Value) → is_int v ≡ true → differ v v ≡ true → ⊥
unfolding binary
differ_itself v whole differs =
    let it = subst (λ v. differ v v ≡ true) (int_is v whole) differs in
    let no = rw (tied_itself value_cmp_total (Int (id_in v))) at it in cc

-- as many of the rows that tables show pass as of those that are stored
pub passing : (t : Table) (rows stored : List Row) → AreStored t rows stored → (p : Row → Bool)
    → length (filter (λ r. p (cells t r)) stored) ≡ length (filter p rows)
passing t rows stored are p =
    sym (length-map (filter (λ r. p (cells t r)) stored) (cells t))
    ∙ ap length (sym (filter-map p (cells t) stored))
    ∙ length_permutation _ _ (IsPermutation-filter p _ _ are.same)

module _ (schema : Schema) (desk : HasDesk schema) (t : Table) (listed : Has desk_schema.tables t)
    (rows stored : List Row) (are : AreStored t rows stored)
    (keys : AllByRecursion (StandsOnce rows) (t.primary ∷ t.uniques)) where
  abbrev tree : ℕ
  tree = (entry schema desk t listed).tree

  never_clashes : (row : Row) (i : Index) → Has stored row → Has schema.indexes i
      → i.table ≡ tree → (i.is_unique && clashes i.order i.columns stored row) ≡ true → ⊥
  never_clashes row i there has of clash =
      let parts = and_parts i.is_unique (clashes i.order i.columns stored row) clash in
      let repeated = repeats schema desk t listed i has of parts.0 in
      let key = some_has (includes i.columns) (t.primary ∷ t.uniques) repeated.1 in
      let once = all_has (StandsOnce rows) (t.primary ∷ t.uniques) key.0 keys key.1 in
      let at = in_cells key.0 in
      let same = all_has (λ (k : List ℕ). (a b : Row) → agree plain k a k b
      ≡ agree plain (in_cells k) (cells t a) (in_cells k) (cells t b)) (t.primary ∷ t.uniques) key.0
      (all_has (λ (t : Table). AllByRecursion (λ k. (a b : Row) → agree plain k a k b
      ≡ agree plain (in_cells k) (cells t a) (in_cells k) (cells t b)) (t.primary ∷ t.uniques))
      desk_schema.tables t keys_same listed) key.1 in
      let p = λ (x : Row). agree plain at x at (cells t row) in
      let other = some_has (λ other. agree i.order i.columns other i.columns row
      && differ (rowid other) (rowid row)) stored parts.1 in
      let both = and_parts (agree i.order i.columns other.0 i.columns row)
      (differ (rowid other.0) (rowid row)) other.2 in
      let whole = all_has (λ r. is_int (rowid r) ≡ true) stored row are.keyed there in
      let itself = agree_chain i.order i.columns i.columns i.columns row other.0 row
      (agree_back i.order i.columns i.columns other.0 row both.0) both.0 in
      let two = two_pass (λ r. p (cells t r)) stored other.0 row other.1 there
      (sym (same other.0 row)
      ∙ agree_within i.order i.columns key.0 other.0 row both.0 repeated.0 key.2)
      (sym (same row row) ∙ agree_within i.order i.columns key.0 row row itself repeated.0 key.2)
      (λ one. differ_itself (rowid row) whole
      (subst (λ (r : Row). differ (rowid r) (rowid row) ≡ true) one both.1)) in
      omega (arith, two, passing t rows stored are p, once (cells t row))

  abbrev Holds : Table → Row → List Row → Type 0
  Holds u row l = list_all (λ i. not (guards i u && clashes i.order i.columns l row))
      schema.indexes ≡ true

  -- the other tables are as they were
  pub unique_kept : (trees : Trees) → Keeps Unique schema trees
      → Keeps Unique schema (with_tree trees tree stored)
  unique_kept trees was = keeps_from Unique schema (with_tree trees tree stored)
      (λ u row there_u there. go u row there_u (u.tree == tree) refl there)
    where
      free : (u : Table) (row : Row) → u.tree ≡ tree → Has stored row → Holds u row stored
      free u row same there = test_from
          (λ i. not (guards i u && clashes i.order i.columns stored row)) schema.indexes
          (λ i has. elim (cases_Bool (guards i u && clashes i.order i.columns stored row)) [
            | inl clash ↦
                let parts = and_parts (guards i u) (clashes i.order i.columns stored row) clash in
                let guard = and_parts i.is_unique (i.table == u.tree) parts.0 in
                let of : i.table ≡ tree = grind (arith, nat_tests, guard.1, same) in
                absurd (never_clashes row i there has of (and_from _ _ guard.0 parts.1))
            | inr none ↦ ap not none
          ])

      go : (u : Table) (row : Row) → Has schema.tables u → (b : Bool) → (u.tree == tree) ≡ b
          → Has (with_tree trees tree stored u.tree) row
          → passes Unique schema (with_tree trees tree stored) u row ≡ true
      go u row there_u true is there =
          let here : with_tree trees tree stored u.tree ≡ stored =
          ap (λ b. cond b stored (trees u.tree)) is in
          subst (Holds u row) (sym here)
          (free u row (grind (arith, nat_tests, is)) (subst (λ l. Has l row) here there))
      go u row there_u false is there =
          let here : with_tree trees tree stored u.tree ≡ trees u.tree =
          ap (λ b. cond b stored (trees u.tree)) is in
          subst (Holds u row) (sym here) (keeps_at Unique schema trees u row was there_u
          (subst (λ l. Has l row) here there))
