-- Which schemas have a desk's tables.
use Rattle.std.proofs.Common.{◌≡◌, ◌∙◌, ◌≤◌, ℕ, zero, suc, ◌+◌, Bool, true, false, not, List}
use Rattle.std.proofs.Common.{[], ◌∷◌, ◌++◌, slice_get, length, Option, Some, None, refl, sym, ap}
use Rattle.std.proofs.Common.{ap₂, subst, arith}
use Rattle.std.specs.Prelude.{◌==◌, ◌&&◌, ◌||◌, find, nat_le}
use Rattle.std.specs.Option.{option_or}
use Rattle.std.specs.List.{AllByRecursion, list_all, position_from}
use Rattle.std.proofs.lemmas.Bool.Decides.{nat_tests}
use Rattle.std.proofs.lemmas.List.Folds.{find-append}
use Rattle.std.proofs.lemmas.Option.{same_Some}
use Rattle.sqlite_value.specs.Keys.{first_key}
use Rattle.sqlite_schema.specs.declared.schema.Index.{Index}
use Rattle.sqlite_schema.specs.declared.schema.Schema.{Schema}
use Rattle.sqlite_schema.specs.declared.schema.Table.{Table}
use Rattle.sqlite_schema.specs.declared.schema.View.{View}
use Rattle.sqlite_schema.specs.Names.{same_name, table_named}
use Rattle.sqlite_catalog.proofs.SoundLemmas.{lowered}
use Rattle.sqlite_rules.specs.Lists.{Has}
use Rattle.sqlite_rules.proofs.ListLemmas.{all_has, has_got}
use Rattle.sqlite_trees.proofs.ListLemmas.{all_weaker, all-append}
use Rattle.desk_sql_layout.specs.Desk.{HasDesk, HasTable, found_as, is_harmless}
use Rattle.desk_sql_layout.specs.Layout.{desk_schema, duty_table}
use Rattle.desk_sql_layout.proofs.More.{all_both, find_more, got_more, place_more}
use Rattle.desk_laws.specs.Schemas.{with_states_once, without}

-- ---- what is found first, with its place

module _ {X : Type 0} (p : X → Bool) where
  abbrev Placed : ℕ → List X → X → Type 0
  Placed i xs x = (k : ℕ) × (position_from p i xs ≡ Some (i + k)) × (slice_get xs k ≡ Some x)

  placed : (i : ℕ) (xs : List X) (x : X) → find p xs ≡ Some x → Placed i xs x
  placed i [] x found = absurd (cc)
  placed i (y ∷ ys) x found = go (p y) refl (placed (i + 1) ys x)
    where
      go : (b : Bool) → p y ≡ b → (find p ys ≡ Some x → Placed (i + 1) ys x)
          → Placed i (y ∷ ys) x
      go true is later = let e : i ≡ i + 0 = omega arith in
          (0, rw is (ap Some e), rw is at found)
      go false is later =
          let it = later (rw is at found) in
          let e : i + 1 + it.0 ≡ i + suc it.0 = omega arith in
          (suc it.0, rw is (it.1 ∙ ap Some e), it.2)

  at_least : (i m : ℕ) (xs : List X) → position_from p i xs ≡ Some m → i ≤ m
  at_least i m [] is = absurd (cc)
  at_least i m (y ∷ ys) is = go (p y) refl (at_least (i + 1) m ys)
    where
      go : (b : Bool) → p y ≡ b → (position_from p (i + 1) ys ≡ Some m → i + 1 ≤ m) → i ≤ m
      go true so later = let e : i ≡ m = same_Some i m (rw so at is) in omega (arith, e)
      go false so later = let e : i + 1 ≤ m = later (rw so at is) in omega (arith, e)

  first : (i k : ℕ) (xs : List X) (x : X) → position_from p i xs ≡ Some (i + k)
      → slice_get xs k ≡ Some x → find p xs ≡ Some x
  first i k [] x is got = absurd (cc)
  first i zero (y ∷ ys) x is got = go (p y) refl
    where
      go : (b : Bool) → p y ≡ b → find p (y ∷ ys) ≡ Some x
      go true so = rw so got
      go false so =
          let below : i + 1 ≤ i + 0 = at_least (i + 1) (i + 0) ys (rw so at is) in
          absurd (omega (arith, below))
  first i (suc k) (y ∷ ys) x is got = go (p y) refl (first (i + 1) k ys x)
    where
      go : (b : Bool) → p y ≡ b
          → (position_from p (i + 1) ys ≡ Some (i + 1 + k) → slice_get ys k ≡ Some x
          → find p ys ≡ Some x)
          → find p (y ∷ ys) ≡ Some x
      go true so later = let e : i ≡ i + suc k = same_Some i (i + suc k) (rw so at is) in
          absurd (omega (arith, e))
      go false so later =
          let e : i + suc k ≡ i + 1 + k = omega arith in
          rw so (later (rw so at is ∙ ap Some e) got)

  -- two neighbours of which at most one passes
  module _ (a b : X) (apart : (p a && p b) ≡ false) where
    turned : (ys : List X) → find p (a ∷ b ∷ ys) ≡ find p (b ∷ a ∷ ys)
    turned ys = go (p a) (p b) refl refl
      where
        go : (c d : Bool) → p a ≡ c → p b ≡ d → find p (a ∷ b ∷ ys) ≡ find p (b ∷ a ∷ ys)
        go true true one other = absurd (let no = sym apart ∙ ap₂ (λ c d. c && d) one other in cc)
        go true false one other = rw (one, other) refl
        go false true one other = rw (one, other) refl
        go false false one other = rw (one, other) refl

    exchanged : (xs ys : List X) → find p (xs ++ a ∷ b ∷ ys) ≡ find p (xs ++ b ∷ a ∷ ys)
    exchanged xs ys = find-append p xs (a ∷ b ∷ ys) ∙ ap (option_or (find p xs)) (turned ys)
        ∙ sym (find-append p xs (b ∷ a ∷ ys))

-- ---- tables in another order

not_so : (b : Bool) → (b ≡ true → ⊥) → b ≡ false
not_so true never = absurd (never refl)
not_so false never = refl

both_false : (c d : Bool) → (c ≡ true → d ≡ true → ⊥) → (c && d) ≡ false
both_false true d never = not_so d (never refl)
both_false false d never = refl

module _ (schema : Schema) (before behind : List Table) (one other : Table)
    (is : schema.tables ≡ before ++ one ∷ other ∷ behind)
    (names : same_name one.name other.name ≡ false) (trees : (one.tree == other.tree) ≡ false) where
  abbrev turned_tables : List Table
  turned_tables = before ++ other ∷ one ∷ behind

  abbrev turned_schema : Schema
  turned_schema = record schema { tables = turned_tables }

  named_apart : (name : List ℕ) → (same_name one.name name && same_name other.name name) ≡ false
  named_apart name = both_false (same_name one.name name) (same_name other.name name) (λ here there.
      let same = (lowered one.name other.name).1
      ((lowered one.name name).0 here ∙ sym ((lowered other.name name).0 there)) in
      absurd (let no = sym same ∙ names in cc))

  kept_apart : (n : ℕ) → ((one.tree == n) && (other.tree == n)) ≡ false
  kept_apart n = both_false (one.tree == n) (other.tree == n) (λ here there.
      let e : one.tree ≡ n = grind (arith, nat_tests) in
      let f : other.tree ≡ n = grind (arith, nat_tests) in
      let same : (one.tree == other.tree) ≡ true = grind (arith, nat_tests) in
      absurd (let no = sym same ∙ trees in cc))

  still : (p : Table → Bool) (x : Table) → (p one && p other) ≡ false
      → find p schema.tables ≡ Some x → find p turned_tables ≡ Some x
  still p x apart found = sym (exchanged p one other apart before behind)
      ∙ ap (find p) (sym is) ∙ found

  table_stays : (t : Table) → HasTable schema t → HasTable turned_schema t
  table_stays t it =
      let found = found_as t it.tree it.not_null in
      let e : it.place ≡ 0 + it.place = omega arith in
      let named = first (λ (u : Table). same_name u.name t.name) 0 it.place schema.tables found
      (it.named ∙ ap Some e) it.listed in
      let there = placed (λ (u : Table). same_name u.name t.name) 0 turned_tables found
      (still (λ u. same_name u.name t.name) found (named_apart t.name) named) in
      let f : 0 + there.0 ≡ there.0 = omega arith in
      record {
        place = there.0;
        tree = it.tree;
        not_null = it.not_null;
        named = there.1 ∙ ap Some f;
        listed = there.2;
        own = still (λ u. u.tree == it.tree) found (kept_apart it.tree) it.own;
        stored = it.stored;
        harmless = it.harmless;
      }

  abbrev free : Table → Type 0
  free t = t.references ≡ []

  turned_free : (xs : List Table) → AllByRecursion free (xs ++ one ∷ other ∷ behind)
      → AllByRecursion free (xs ++ other ∷ one ∷ behind)
  turned_free [] (a, (b, rest)) = (b, (a, rest))
  turned_free (x ∷ xs) (a, rest) = (a, turned_free xs rest)

  pub in_another_order : HasDesk schema → HasDesk turned_schema
  unfolding HasDesk
  in_another_order desk = record {
    tables = all_weaker (HasTable schema) (HasTable turned_schema) table_stays desk_schema.tables
        desk.tables;
    alone = turned_free before (subst (AllByRecursion free) is desk.alone);
  }

-- ---- what may stand beside

module _ (schema : Schema) (more : Table) (free : more.references ≡ []) where
  abbrev wider : Schema
  wider = record schema { tables = schema.tables ++ (more ∷ []) }

  table_beside : (t : Table) → HasTable schema t → HasTable wider t
  table_beside t it =
      let found = found_as t it.tree it.not_null in
      record {
        place = it.place;
        tree = it.tree;
        not_null = it.not_null;
        named = place_more (λ (u : Table). same_name u.name t.name) schema.tables (more ∷ []) 0 it.place
            it.named;
        listed = got_more schema.tables (more ∷ []) it.place found it.listed;
        own = find_more (λ (u : Table). u.tree == it.tree) schema.tables (more ∷ []) found it.own;
        stored = it.stored;
        harmless = it.harmless;
      }

  pub beside_a_table : HasDesk schema → HasDesk wider
  unfolding HasDesk
  beside_a_table desk = record {
    tables = all_weaker (HasTable schema) (HasTable wider) table_beside desk_schema.tables
        desk.tables;
    alone = all-append (λ (t : Table). t.references ≡ []) schema.tables (more ∷ []) desk.alone
        (free, tt);
  }

either : (b : Bool) → (b || true) ≡ true
either true = refl
either false = refl

module _ (schema : Schema) (more : Index) (loose : more.is_unique ≡ false)
    (short : nat_le (length more.columns) 8 ≡ true) where
  abbrev indexed : Schema
  indexed = record schema { indexes = schema.indexes ++ (more ∷ []) }

  harmless_one : (t : Table) (tree : ℕ)
      → list_all (λ index. not (index.table == tree) || is_harmless t index) (more ∷ []) ≡ true
  harmless_one t tree = rw (short, loose) (ap (λ b. b && true) (either (not (more.table == tree))))

  table_indexed : (t : Table) → HasTable schema t → HasTable indexed t
  table_indexed t it = record {
    place = it.place;
    tree = it.tree;
    not_null = it.not_null;
    named = it.named;
    listed = it.listed;
    own = it.own;
    stored = it.stored;
    harmless = all_both (λ index. not (index.table == it.tree) || is_harmless t index) schema.indexes
        (more ∷ []) it.harmless (harmless_one t it.tree);
  }

  pub beside_an_index : HasDesk schema → HasDesk indexed
  unfolding HasDesk
  beside_an_index desk = record {
    tables = all_weaker (HasTable schema) (HasTable indexed) table_indexed desk_schema.tables
        desk.tables;
    alone = desk.alone;
  }

module _ (schema : Schema) (views : List View) where
  abbrev viewed : Schema
  viewed = record schema { views = views }

  table_viewed : (t : Table) → HasTable schema t → HasTable viewed t
  table_viewed t it = record {
    place = it.place;
    tree = it.tree;
    not_null = it.not_null;
    named = it.named;
    listed = it.listed;
    own = it.own;
    stored = it.stored;
    harmless = it.harmless;
  }

  pub beside_views : HasDesk schema → HasDesk viewed
  unfolding HasDesk
  beside_views desk = record {
    tables = all_weaker (HasTable schema) (HasTable viewed) table_viewed desk_schema.tables
        desk.tables;
    alone = desk.alone;
  }

-- ---- what has no desk

none_left : AllByRecursion (λ (t : Table). table_named (without t) t.name ≡ None) desk_schema.tables
unfolding same_name
none_left = (
  refl,
  (
    refl,
    (
      refl,
      (
        refl,
        (
          refl,
          (
            refl,
            (
              refl,
              (
                refl,
                (
                  refl,
                  (
                    refl,
                    (
                      refl,
                      (
                        refl,
                        (
                          refl,
                          (
                            refl,
                            (refl, (refl, tt)),
                          ),
                        ),
                      ),
                    ),
                  ),
                ),
              ),
            ),
          ),
        ),
      ),
    ),
  ),
)

pub none_missing : (t : Table) → Has desk_schema.tables t → ¬ HasDesk (without t)
unfolding HasDesk
none_missing t there desk =
    let it = all_has (HasTable (without t)) desk_schema.tables t desk.tables there in
    let none = all_has (λ (u : Table). table_named (without u) u.name ≡ None) desk_schema.tables t
    none_left there in
    absurd (let no = sym it.named ∙ none in cc)

module _ (it : HasTable with_states_once duty_table) where
  duty_place : it.place ≡ 12
  unfolding same_name
  duty_place = same_Some it.place 12 (sym it.named ∙ refl)

  duty_tree : it.tree ≡ 23
  duty_tree =
      let listed : slice_get with_states_once.tables 12 ≡ Some (found_as duty_table it.tree it.not_null) =
      subst (λ n. slice_get with_states_once.tables n ≡ Some (found_as duty_table it.tree it.not_null))
      duty_place it.listed in
      sym (ap (λ (t : Table). t.tree) (same_Some duty_table (found_as duty_table it.tree it.not_null) listed))

  refused : ⊥
  unfolding first_key
  refused =
      let no : false ≡ true = subst (λ n. list_all (λ index. not (index.table == n)
      || is_harmless duty_table index) with_states_once.indexes ≡ true) duty_tree it.harmless in
      absurd (cc)

pub none_bound : ¬ HasDesk with_states_once
unfolding HasDesk
none_bound desk = refused (all_has (HasTable with_states_once) desk_schema.tables duty_table
    desk.tables (has_got desk_schema.tables 12 duty_table refl))
