-- A schema with these tables of a desk shows no difference that names a table or an index.
use Rattle.std.proofs.Common.{◌≡◌, ◌∙◌, ℕ, suc, zero, Bool, true, false, List, [], ◌∷◌, take, refl, ap}
use Rattle.std.proofs.lemmas.Bool.{and_parts}
use Rattle.std.specs.Prelude.{◌==◌, ◌&&◌, ◌||◌, not, find, if◌then◌else◌, is_none, length, slice_get}
use Rattle.std.specs.Prelude.{Option, Some, None, option_and_then}
use Rattle.std.specs.List.{AllByRecursion, list_all}
use Rattle.std.specs.Option.{option_or}
use Rattle.sqlite_schema.specs.declared.schema.Index.{Index}
use Rattle.sqlite_schema.specs.declared.schema.Schema.{Schema}
use Rattle.sqlite_schema.specs.declared.schema.Table.{Table}
use Rattle.desk_sql_layout.specs.Desk.{HasDesk, HasTable, found_as, is_harmless}
use Rattle.desk_sql_adopt.specs.Older.{HasOlder, older_tables}
use Rattle.desk_sql_adopt.specs.declared.older.OlderVersion.{OlderVersion}
use Rattle.desk_sql_adopt.specs.declared.older.OlderVersion.TheVariants.{One, Two}
use Rattle.desk_files.specs.Differences.{IsFirst, IsNamed, is_refused, missing, names_of, refused}
use Rattle.desk_files.specs.Differences.{wanted, with_foreign_key}
use Rattle.desk_files.specs.declared.differences.Difference.{Difference}
use Rattle.desk_files.specs.declared.differences.Difference.TheVariants as difference

-- no table is missing
full : (schema : Schema) (ts : List Table) → AllByRecursion (HasTable schema) ts
    → missing schema (names_of ts) ≡ None
full schema [] has = refl
full schema (t ∷ ts) has =
    ap (λ place. if is_none place then Some t.name else missing schema (names_of ts)) has.0.named
    ∙ full schema ts has.1

-- no table has a foreign key
alone : (ts : List Table) → AllByRecursion (λ (t : Table). t.references ≡ []) ts
    → find (λ (t : Table). not (length t.references == 0)) ts ≡ None
alone [] has = refl
alone (t ∷ ts) has =
    ap (λ (l : List _). if not (length l == 0) then Some t
    else find (λ (t : Table). not (length t.references == 0)) ts) has.0
    ∙ alone ts has.1

passed : (here own harmless : Bool) → (not here || harmless) ≡ true
    → (here && not own && not harmless) ≡ false
passed false own harmless is = refl
passed true true harmless is = refl
passed true false true is = refl
passed true false false is = absurd (cc)

-- no index of a table is refused
passed_all : (t : Table) (tree : ℕ) (not_null : Bool) (all : List Index)
    → list_all (λ index. not (index.table == tree) || is_harmless t index) all ≡ true
    → find (is_refused (found_as t tree not_null)) all ≡ None
unfolding is_refused
passed_all t tree not_null [] is = refl
passed_all t tree not_null (index ∷ all) is =
    let both = and_parts (not (index.table == tree) || is_harmless t index)
    (list_all (λ (other : Index). not (other.table == tree) || is_harmless t other) all) is in
    ap (λ b. if b then Some index else find (is_refused (found_as t tree not_null)) all)
    (passed (index.table == tree) _ (is_harmless t index) both.0)
    ∙ passed_all t tree not_null all both.1

harmless : (schema : Schema) (ts : List Table) → AllByRecursion (HasTable schema) ts
    → refused schema (names_of ts) ≡ None
harmless schema [] has = refl
harmless schema (t ∷ ts) has =
    let has_table = has.0 in
    let on = λ (found : Option Table).
    option_and_then (λ table. find (is_refused table) schema.indexes) found in
    ap (λ place. option_or (on (option_and_then (slice_get schema.tables) place))
    (refused schema (names_of ts))) has_table.named
    ∙ ap (λ found. option_or (on found) (refused schema (names_of ts))) has_table.listed
    ∙ ap (λ first. option_or first (refused schema (names_of ts)))
    (passed_all t has_table.tree has_table.not_null schema.indexes has_table.harmless)
    ∙ harmless schema ts has.1

module _ (schema : Schema) (is_older : Bool)
    (tables : AllByRecursion (HasTable schema) (wanted is_older))
    (lone : AllByRecursion (λ (t : Table). t.references ≡ []) schema.tables) where
  none_missing : (name : List ℕ) → missing schema (names_of (wanted is_older)) ≡ Some name → ⊥
  none_missing name is = let no = full schema (wanted is_older) tables in absurd (cc)

  none_named : (told : Difference) → IsFirst schema is_older told → IsNamed told → ⊥
  none_named (difference.Missing name) is named = none_missing is.0 is.1
  none_named (difference.Bound name) is named = none_missing is.0 is.1
  none_named (difference.Unread name) is named = none_missing is.0 is.1
  none_named (difference.ForeignKey name) is named =
      let some = is.1.1 in let no = alone schema.tables lone in absurd (cc)
  none_named (difference.Index name) is named =
      let some = is.1.1 in let no = harmless schema (wanted is_older) tables in absurd (cc)
  none_named difference.Declared is named = named
  none_named difference.Older is named = named

pub of_desk : (schema : Schema) (told : Difference) → IsFirst schema false told → IsNamed told
    → HasDesk schema → ⊥
unfolding HasDesk
of_desk schema told is named desk = none_named schema false desk.tables desk.alone told is named

-- the first tables are there too
fewer : {X : Type 0} (P : X → Type 0) (n : ℕ) (xs : List X) → AllByRecursion P xs
    → AllByRecursion P (take n xs)
fewer P zero xs all = tt
fewer P (suc n) [] all = tt
fewer P (suc n) (x ∷ xs) all = (all.0, fewer P n xs all.1)

pub of_older : (version : OlderVersion) (schema : Schema) (told : Difference)
    → IsFirst schema true told → IsNamed told → HasOlder version schema → ⊥
unfolding HasOlder
of_older One schema told is named older =
    none_named schema true older.each older.alone told is named
of_older Two schema told is named older =
    none_named schema true (fewer (HasTable schema) 14 (older_tables Two) older.each) older.alone
    told is named
