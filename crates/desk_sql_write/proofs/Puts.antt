-- Rows that INSERT puts into a table, if the table can hold the rows after it.
use Rattle.std.proofs.Common.{◌≡◌, inl, inr, ℕ, suc, ℤ, pos, ◌+◌, ◌^◌, ◌<◌, ◌≤◌, true, false, not}
use Rattle.std.proofs.Common.{List, [], ◌∷◌, ◌++◌, map, filter, drop, length, Option, Some, None}
use Rattle.std.proofs.Common.{refl, sym, ap, subst, arith}
use Rattle.std.specs.List.{AllByRecursion, list_all}
use Rattle.std.specs.List.Sorted.{IsPermutation}
use Rattle.std.specs.Ordering.{is_eq}
use Rattle.std.proofs.lemmas.Bool.{and_from, cases_Bool}
use Rattle.std.proofs.lemmas.Bool.Decides.{nat_tests}
use Rattle.std.proofs.lemmas.List.Sorted.{IsPermutation-sym, IsPermutation-middle, length_permutation}
use Rattle.sqlite_value.specs.declared.keys.Order.{Order}
use Rattle.sqlite_value.specs.declared.value.Value.{Value}
use Rattle.sqlite_value.specs.declared.value.Value.TheVariants.{Null, Int, Real, Text, Blob}
use Rattle.sqlite_value.specs.Keys.{plain, first_key}
use Rattle.sqlite_value.specs.Order.{Row, column, value_cmp}
use Rattle.sqlite_trees.specs.Tree.{Trees, rowid, put_row}
use Rattle.sqlite_trees.specs.View.{is_int}
use Rattle.sqlite_trees.proofs.ListLemmas.{IsPermutation-filter}
use Rattle.sqlite_trees.proofs.TreeLemmas.{all-put_row}
use Rattle.sqlite_value.proofs.OrderLemmas.{value_cmp_total}
use Rattle.std.proofs.lemmas.Cmp.{tied_itself}
use Rattle.sqlite_sql.specs.Ops.{binary, fits_i64}
use Rattle.sqlite_schema.specs.declared.schema.Column.{Column}
use Rattle.sqlite_schema.specs.declared.schema.Constraint.TheVariants.{Datatype, NotNull}
use Rattle.sqlite_schema.specs.declared.schema.Table.{Table}
use Rattle.sqlite_schema.specs.Rules.{agree, passes}
use Rattle.sqlite_rules.specs.declared.error.Rowids.TheVariants.{Chosen}
use Rattle.sqlite_rules.specs.Cast.{cast_row}
use Rattle.sqlite_rules.specs.Edit.{id_in, next_rowid, numbered, with_rowid, is_taken, are_fresh, put_all, have_rowids}
use Rattle.sqlite_rules.proofs.ListLemmas.{all_has, has_kept, some_has}
use Rattle.sqlite_rules.proofs.PlaceLemmas.{next_is_free}
use Rattle.sqlite_rules.proofs.ProbeLemmas.{mapped_has}
use Rattle.desk_sql_layout.specs.Layout.{desk_schema, table_of}
use Rattle.desk_sql_layout.specs.Stored.{cells, AreStored}
use Rattle.desk_sql_layout.proofs.Edits.{has_permuted}
use Rattle.desk_sql_layout.proofs.Keeps.{stored_more}
use Rattle.desk_sql_layout.proofs.Writes.{stored_as}
use Rattle.desk_sql_write.specs.Taking.{StandsOnce, LeavesRoom, in_cells}
use Rattle.desk_sql_write.proofs.Keyed.{some_there}
use Rattle.desk_sql_write.proofs.Lists.{count_both}
use Rattle.desk_sql_write.proofs.Rooms.{fewer_left, next_room, room_fits}
use Rattle.desk_sql_write.proofs.Storable.{IsLight}

-- a row as it is stored: with an additional rowid, or with NULL in the column that is the rowid
abbrev pub as_stored : Option ℕ → ℤ → Row → Row
as_stored None id cs = Int id ∷ cs
as_stored (Some at) id [] = []
as_stored (Some at) id (c ∷ cs) = c ∷ Null ∷ cs

-- a number of 32 bits in the first cell, if that is the rowid
abbrev pub IsNumber : Option ℕ → Row → Type 0
IsNumber None cs = Unit {0}
IsNumber (Some at) cs = (n : ℕ) × (rest : Row) × (cs ≡ Int (pos n) ∷ rest) × (n < 2 ^ 32)

equal_number : (a : Value) (n : ℤ) → is_int a ≡ true → is_eq (value_cmp a (Int n)) ≡ true
    → agree plain (0 ∷ []) (a ∷ []) (0 ∷ []) (Int n ∷ []) ≡ true
unfolding binary first_key
equal_number Null n whole same = absurd (cc)
equal_number (Int m) n whole same = rw same refl
equal_number (Real x) n whole same = absurd (cc)
equal_number (Text t) n whole same = absurd (cc)
equal_number (Blob b) n whole same = absurd (cc)

pub once_permuted : (xs ys : List Row) (places : List ℕ) → IsPermutation xs ys
    → StandsOnce xs places → StandsOnce ys places
once_permuted xs ys places same once key =
    let p = λ (row : Row). agree plain (in_cells places) row (in_cells places) key in
    omega (arith, once key, length_permutation _ _ (IsPermutation-filter p xs ys same))

-- among fewer rows no key appears more often
once_fewer : (xs ys : List Row) (places : List ℕ) → StandsOnce (xs ++ ys) places
    → StandsOnce ys places
once_fewer xs ys places once key =
    let p = λ (row : Row). agree plain (in_cells places) row (in_cells places) key in
    omega (arith, once key, count_both p xs ys)

once_behind : (w : Row) (wanted shown : List Row) (places : List ℕ)
    → StandsOnce (w ∷ wanted ++ shown) places → StandsOnce (w ∷ shown) places
once_behind w wanted shown places once = once_fewer wanted (w ∷ shown) places
    (once_permuted (w ∷ wanted ++ shown) (wanted ++ w ∷ shown) places
    (IsPermutation-sym _ _ (IsPermutation-middle wanted w shown)) once)

at_rowid_of : (k : Option ℕ) (n : ℕ) (id : ℤ) (w : Row) → k ≡ None → LeavesRoom n (Int id)
    → LeavesRoom n (rowid (as_stored k id w))
at_rowid_of k n id w none room = rw none room

module _ (name : List ℕ) (tree : ℕ) (columns : List Column) (key : Option ℕ) (primary : List ℕ)
    (uniques : List (List ℕ)) (orders : List Order) where
  abbrev this : Table
  this = table_of name tree columns key primary uniques orders

  -- a row of the table that passes each of the table's rules
  pub record IsRight (trees : Trees) (row : Row) : Type 0 where
    pub typed : passes Datatype desk_schema trees this row ≡ true
    pub present : passes NotNull desk_schema trees this row ≡ true
    pub light : AllByRecursion IsLight row
    pub some : 1 < length row
    pub few : length row ≤ 9

  -- cells that the table can hold
  pub record Suits (trees : Trees) (cs : Row) : Type 0 where
    pub number : IsNumber key cs
    pub right : (id : ℤ) → IsRight trees (as_stored key id cs)

  -- rows that show these cells, whatever rowid they have
  abbrev pub AreShown : List Row → Type 0
  AreShown = AllByRecursion (λ cs. (id : ℤ) → cells this (as_stored key id cs) ≡ cs)

  -- sources from which INSERT makes these cells
  abbrev pub Make : List Row → List Row → Type 0
  Make [] [] = Unit {0}
  Make (s ∷ sources) (w ∷ wanted) = ((stored : List Row)
      → with_rowid Chosen stored (cast_row this s) ≡ as_stored key (next_rowid stored) w)
      × Make sources wanted
  Make _ _ = ⊥

  -- if the rowid is a column, it is the first, and the key
  abbrev pub IsFirst : Option ℕ → Type 0
  IsFirst None = Unit {0}
  IsFirst (Some at) = (primary ≡ 0 ∷ []) × ((r : Row) → column (cells this r) 0 ≡ rowid r)

  abbrev cast : List Row → List Row
  cast sources = map (λ s. cast_row this (drop 0 s)) sources

  pub record ArePut (trees : Trees) (stored shown sources wanted : List Row) : Type 0 where
    pub keyed : have_rowids (numbered Chosen stored (cast sources)) ≡ true
    pub fresh : are_fresh stored (numbered Chosen stored (cast sources)) ≡ true
    pub fits : list_all (λ r. fits_i64 (id_in (rowid r))) (numbered Chosen stored (cast sources))
        ≡ true
    pub right : AllByRecursion (IsRight trees) (numbered Chosen stored (cast sources))
    pub are : AreStored this (wanted ++ shown)
        (put_all stored (numbered Chosen stored (cast sources)))

  -- ---- the rowid of a new row is free

  whole : (id : ℤ) (w : Row) → IsNumber key w → is_int (rowid (as_stored key id w)) ≡ true
  whole id w number = go key number
    where
      go : (k : Option ℕ) → IsNumber k w → is_int (rowid (as_stored k id w)) ≡ true
      go None number = refl
      go (Some at) number = rw number.2 refl

  pub fitting : (n : ℕ) (id : ℤ) (w : Row) → (key ≡ None → LeavesRoom n (Int id)) → IsNumber key w
      → fits_i64 (id_in (rowid (as_stored key id w))) ≡ true
  fitting n id w room number = go key refl number
    where
      go : (k : Option ℕ) → key ≡ k → IsNumber k w
          → fits_i64 (id_in (rowid (as_stored k id w))) ≡ true
      go None is number = room_fits n id (room is)
      go (Some at) is number = let low : number.0 < 2 ^ 63 = omega (arith, number.3) in
          rw number.2 (grind (arith, nat_tests))

  never_taken : (shown stored : List Row) → AreStored this shown stored → (w : Row)
      → StandsOnce (w ∷ shown) primary → IsFirst key → IsNumber key w
      → is_taken stored (as_stored key (next_rowid stored) w) ≡ false
  never_taken shown stored are w once first number = go key first number
    where
      go : (k : Option ℕ) → IsFirst k → IsNumber k w
          → is_taken stored (as_stored k (next_rowid stored) w) ≡ false
      go None first number = next_is_free Chosen stored w are.rising are.keyed
      go (Some at) first number =
          let there = Int (pos number.0) ∷ number.1 in
          let p = λ (row : Row). agree plain (in_cells (0 ∷ [])) row (in_cells (0 ∷ [])) there in
          let one : StandsOnce (there ∷ shown) (0 ∷ []) =
          subst (λ (cs : Row). StandsOnce (cs ∷ shown) (0 ∷ [])) number.2
          (subst (StandsOnce (w ∷ shown)) first.0 once) in
          let here : p there ≡ true = equal_number (Int (pos number.0)) (pos number.0) refl
          (ap is_eq (tied_itself value_cmp_total (Int (pos number.0)))) in
          rw number.2 (elim (cases_Bool (is_taken stored (Int (pos number.0) ∷ Null ∷ number.1))) [
            | inl taken ↦
                let r = some_has (λ r. is_eq (value_cmp (rowid r) (Int (pos number.0)))) stored
                taken in
                let agrees : p (cells this r.0) ≡ true =
                rw (first.1 r.0) (equal_number (rowid r.0) (pos number.0)
                (all_has (λ r. is_int (rowid r) ≡ true) stored r.0 are.keyed r.1) r.2) in
                let is_shown = has_permuted shown (map (cells this) stored) (cells this r.0)
                are.same (mapped_has (cells this) stored r.0 r.1) in
                let some = some_there (filter p shown) (cells this r.0)
                (has_kept p shown (cells this r.0) is_shown agrees) in
                let both : length (filter p (there ∷ shown)) ≡ suc (length (filter p shown)) =
                rw here refl in
                absurd (omega (arith, one there, both, some))
            | inr free ↦ free
          ])

  -- ---- all of them

  pub puts : (trees : Trees) → IsFirst key → (sources wanted shown stored : List Row)
      → AreStored this shown stored → Make sources wanted → AreShown wanted
      → AllByRecursion (Suits trees) wanted → StandsOnce (wanted ++ shown) primary
      → length wanted < 2 ^ 62 → (key ≡ None
      → AllByRecursion (λ r. LeavesRoom (length wanted) (rowid r)) stored)
      → ArePut trees stored shown sources wanted
  puts trees first [] [] shown stored are make shows suits once few room = record {
    keyed = refl;
    fresh = refl;
    fits = refl;
    right = tt;
    are = are;
  }
  puts trees first [] (w ∷ wanted) shown stored are make shows suits once few room = absurd make
  puts trees first (s ∷ sources) [] shown stored are make shows suits once few room = absurd make
  puts trees first (s ∷ sources) (w ∷ wanted) shown stored are make shows suits once few room =
      let n = length wanted in
      let more : length (w ∷ wanted) ≡ n + 1 = omega arith in
      let id = next_rowid stored in
      let row = as_stored key id w in
      let new = with_rowid Chosen stored (cast_row this s) in
      let is : row ≡ new = sym (make.0 stored) in
      let low : n < 2 ^ 62 = omega (arith, few) in
      let rooms = λ (none : key ≡ None).
      subst (λ k. AllByRecursion (λ r. LeavesRoom k (rowid r)) stored) more (room none) in
      let leaves = λ (none : key ≡ None). next_room n low stored are.keyed (rooms none) in
      let free : is_taken stored new ≡ false =
      subst (λ r. is_taken stored r ≡ false) is
      (never_taken shown stored are w (once_behind w wanted shown primary once) first
      suits.0.number) in
      let keyed : is_int (rowid new) ≡ true =
      subst (λ r. is_int (rowid r) ≡ true) is (whole id w suits.0.number) in
      let fits : fits_i64 (id_in (rowid new)) ≡ true =
      subst (λ r. fits_i64 (id_in (rowid r)) ≡ true) is (fitting n id w leaves suits.0.number) in
      let seen : cells this new ≡ w = subst (λ r. cells this r ≡ w) is (shows.0 id) in
      let here = subst (λ x. AreStored this (x ∷ shown) (put_row new stored)) seen
      (stored_more this shown stored are new free keyed) in
      let later = λ (none : key ≡ None). all-put_row (λ r. LeavesRoom n (rowid r)) new stored
      (subst (λ r. LeavesRoom n (rowid r)) is (at_rowid_of key n id w none (leaves none)))
      (fewer_left n 1 stored (rooms none)) in
      let rest = puts trees first sources wanted (w ∷ shown) (put_row new stored) here make.1
      shows.1 suits.1 (once_permuted _ _ primary
      (IsPermutation-sym _ _ (IsPermutation-middle wanted w shown)) once) low later in
      record {
        keyed = and_from _ _ keyed rest.keyed;
        fresh = and_from _ _ (ap not free) rest.fresh;
        fits = and_from _ _ fits rest.fits;
        right = (subst (IsRight trees) is (suits.0.right id), rest.right);
        are = stored_as this (wanted ++ w ∷ shown) (w ∷ wanted ++ shown) _
            (IsPermutation-sym _ _ (IsPermutation-middle wanted w shown)) rest.are;
      }

  keyed_row : (id : ℤ) (w : Row) → key ≡ None → is_int (rowid (as_stored key id w)) ≡ true
  keyed_row id w none = rw none refl

  -- the rowids that are left
  pub rooms_put : (n : ℕ) → key ≡ None → (sources wanted stored : List Row) → Make sources wanted
      → AllByRecursion (λ r. is_int (rowid r) ≡ true) stored → n + length wanted < 2 ^ 62
      → AllByRecursion (λ r. LeavesRoom (n + length wanted) (rowid r)) stored
      → AllByRecursion (λ r. LeavesRoom n (rowid r))
      (put_all stored (numbered Chosen stored (cast sources)))
  rooms_put n none [] [] stored make keyed few room = let same : n + 0 ≡ n = omega arith in
      subst (λ k. AllByRecursion (λ r. LeavesRoom k (rowid r)) stored) same room
  rooms_put n none [] (w ∷ wanted) stored make keyed few room = absurd make
  rooms_put n none (s ∷ sources) [] stored make keyed few room = absurd make
  rooms_put n none (s ∷ sources) (w ∷ wanted) stored make keyed few room =
      let m = n + length wanted in
      let more : n + length (w ∷ wanted) ≡ m + 1 = omega arith in
      let low : m < 2 ^ 62 = omega (arith, few) in
      let id = next_rowid stored in
      let new = with_rowid Chosen stored (cast_row this s) in
      let is : as_stored key id w ≡ new = sym (make.0 stored) in
      let rooms = subst (λ k. AllByRecursion (λ r. LeavesRoom k (rowid r)) stored) more room in
      let leaves = next_room m low stored keyed rooms in
      rooms_put n none sources wanted (put_row new stored) make.1
      (all-put_row (λ r. is_int (rowid r) ≡ true) new stored
      (subst (λ r. is_int (rowid r) ≡ true) is (keyed_row id w none)) keyed) low
      (all-put_row (λ r. LeavesRoom m (rowid r)) new stored
      (subst (λ r. LeavesRoom m (rowid r)) is (at_rowid_of key m id w none leaves))
      (fewer_left m 1 stored rooms))
