-- A row of small cells can be stored, with its entries in the indexes.
use Rattle.std.proofs.Common.{◌≡◌, inl, inr, ℕ, zero, suc, ℤ, pos, negsuc, ◌+◌, ◌^◌, ◌<◌, ◌≤◌}
use Rattle.std.proofs.Common.{All, List, [], ◌∷◌, length, map, get_or, refl, sym, subst, arith}
use Rattle.std.proofs.Common.{mul-le-mul_right}
use Rattle.std.specs.List.{AllByRecursion}
use Rattle.std.specs.Float.{NotNan}
use Rattle.std.specs.Float.Ieee
use Rattle.std.proofs.lemmas.Nat.Bits.{bit_at-zero}
use Rattle.std.proofs.lemmas.List.{length-map, length_push}
use Rattle.std.proofs.lemmas.List.Elements.{All-map, All-push, All-from_recursion}
use Rattle.std.proofs.lemmas.List.Sums.{sum_by-le}
use Rattle.sqlite_value.specs.declared.value.Value.{Value}
use Rattle.sqlite_value.specs.declared.value.Value.TheVariants.{Null, Int, Real, Text, Blob}
use Rattle.sqlite_value.specs.Order.{Row, column, number, bytes}
use Rattle.sqlite_trees.specs.View.{IsStorable}
use Rattle.sqlite_sql.specs.Catalog.{entry_of}
use Rattle.sqlite_schema.specs.declared.schema.Index.{Index}
use Rattle.sqlite_schema.specs.declared.schema.Schema.{Schema}
use Rattle.sqlite_schema.specs.declared.schema.Table.{Table}
use Rattle.sqlite_schema.specs.Rules.{table_reals, index_reals}
use Rattle.sqlite_rules.specs.Edit.{IsOversized}
use Rattle.sqlite_rules.specs.Lists.{Has}
use Rattle.desk_sql_write.specs.Taking.{IsSmall}

-- a value that is small enough, whatever number it is
abbrev pub IsLight : Value → Type 0
IsLight v = NotNan (number v) × (18 + length (bytes v) ≤ 10 ^ 8 + 18)

pub int_light : (n : ℤ) → IsLight (Int n)
unfolding Ieee.is_nan
int_light (pos n) = (tt, omega arith)
int_light (negsuc n) = (tt, omega arith)

pub null_light : IsLight Null
unfolding Ieee.is_nan
null_light = (tt, omega arith)

pub small_light : (v : Value) → IsSmall v → IsLight v
unfolding Ieee.is_nan
small_light Null s = (tt, omega arith)
small_light (Int (pos n)) s = (tt, omega arith)
small_light (Int (negsuc n)) s = absurd s
small_light (Real x) s = absurd s
small_light (Text t) s = (tt, omega (arith, s))
small_light (Blob b) s = (tt, omega (arith, s))

pub all_light : (row : Row) → AllByRecursion IsSmall row → AllByRecursion IsLight row
all_light [] all = tt
all_light (v ∷ row) all = (small_light v all.0, all_light row all.1)

column_light : (row : Row) → AllByRecursion IsLight row → (c : ℕ) → IsLight (column row c)
column_light [] all zero = null_light
column_light [] all (suc c) = null_light
column_light (v ∷ row) all zero = all.0
column_light (v ∷ row) all (suc c) = column_light row all.1 c

storable : (entry : Row) → All IsLight entry → 0 < length entry → length entry ≤ 9
    → IsStorable 0 entry
storable entry all some few =
    let size = λ (v : Value). 18 + length (bytes v) in
    record {
      typed = λ c set. absurd (omega (arith, bit_at-zero c, set));
      columns = (some, omega (arith, few));
      numbers = λ i d low. (all i d low).0;
      short = omega (
        arith,
        sum_by-le size (10 ^ 8 + 18) entry (λ i d low. (all i d low).1),
        mul-le-mul_right (10 ^ 8 + 18) few,
      );
    }

pub no_reals : (places : List ℕ) → index_reals 0 places ≡ 0
no_reals [] = refl
no_reals (p ∷ places) = omega (arith, bit_at-zero p, no_reals places)

-- an index of the table has 8 columns at most
abbrev pub AreNarrow : Schema → Table → Type 0
AreNarrow schema table = (i : Index) → Has schema.indexes i → i.table ≡ table.tree
    → length i.columns ≤ 8

pub never_oversized : (schema : Schema) (table : Table) (row : Row) → AreNarrow schema table
    → table_reals table ≡ 0 → AllByRecursion IsLight row → 1 < length row → length row ≤ 9
    → ¬ IsOversized schema table row
never_oversized schema table row narrow none light some few (inl big) =
    big (
      subst (λ n. IsStorable n row) (sym none)
          (storable row (All-from_recursion IsLight row light) (omega (arith, some)) few),
      some,
    )
never_oversized schema table row narrow none light some few (inr (i, has, of, big)) =
    let width = narrow i has of in
    let entry = entry_of i.columns row in
    let size : length entry ≡ length i.columns + 1 =
    omega (
      arith,
      length_push (map (column row) i.columns) (column row 0),
      length-map i.columns (column row),
    ) in
    let all : All IsLight entry =
    All-push IsLight _ _ (All-map IsLight (column row) i.columns
    (λ k d low. column_light row light (get_or i.columns k d))) (column_light row light 0) in
    big (rw (none, no_reals i.columns)
    (storable entry all (omega (arith, size)) (omega (arith, size, width))))
