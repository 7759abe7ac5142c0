-- That a schema has the desk's tables.
use Rattle.std.proofs.Common.{◌≡◌, ℕ, Bool, true, false, List, [], ◌∷◌, map, Option, Some, None}
use Rattle.std.proofs.Common.{refl, sym, ap, ap₂, subst, subst₂, ◌∙◌, arith}
use Rattle.std.proofs.lemmas.Bool.Decides.{nat_tests}
use Rattle.std.proofs.lemmas.Option.{same_Some}
use Rattle.std.specs.Borrow.{Bor}
use Rattle.std.specs.Prelude.{◌==◌, ◌+◌, ◌^◌, ◌||◌, find, if◌then◌else◌, nat_le, not, slice_get}
use Rattle.std.specs.Bool.{Decides}
use Rattle.std.specs.List.{list_all}
use Rattle.sqlite_schema.specs.declared.schema.Column.{Column}
use Rattle.sqlite_schema.specs.declared.schema.Kind.TheVariants.{Integer}
use Rattle.sqlite_schema.specs.declared.schema.Table.{Table}
use Rattle.sqlite_schema.specs.declared.schema.Schema.{Schema}
use Rattle.sqlite_schema.specs.Names.{table_named}
use Rattle.desk_sql_layout.specs.Desk.{HasTable, columns_with, found_as, is_harmless}
use Rattle.desk_sql_layout.specs.Layout.{column_of, table_of}
use Rattle.desk_sql_adopt.specs.Forms.{column_by, columns_by, key_by, places_by, plain_orders}
use Rattle.desk_sql_adopt.specs.Forms.{table_by, table_in}
use Rattle.desk_sql_adopt.specs.Owned.{IsKept, IsOwn}
use Rattle.desk_sql_adopt.specs.declared.forms.ColumnForm.{ColumnForm}
use Rattle.desk_sql_adopt.specs.declared.forms.TableForm.{TableForm}

-- ---- a form, and the table that is found as it declares

keyless : (not_null : Bool) (at : ℕ) (cs : List Column) → columns_with None not_null at cs ≡ cs
keyless not_null at [] = refl
keyless not_null at (c ∷ cs) = ap (λ l. c ∷ l) (keyless not_null (at + 1) cs)

later_place : (at : ℕ) → (0 == at + 1) ≡ false
later_place at = go (0 == at + 1) refl
  where
    go : (b : Bool) → (0 == at + 1) ≡ b → b ≡ false
    go false is = refl
    go true is = let no : 0 ≡ at + 1 = grind (arith, nat_tests) in absurd (omega (arith, no))

unmarked : (b not_null : Bool) (c : Column) → b ≡ false
    → (if b then record c { not_null = not_null } else c) ≡ c
unmarked true not_null c is = absurd (cc)
unmarked false not_null c is = refl

beyond : (not_null : Bool) (at : ℕ) (cs : List Column)
    → columns_with (Some 0) not_null (at + 1) cs ≡ cs
beyond not_null at [] = refl
beyond not_null at (c ∷ cs) =
    ap₂ (λ d (l : List Column). d ∷ l) (unmarked (0 == at + 1) not_null c (later_place at))
    (beyond not_null (at + 1) cs)

columns_found : (number : Option (Bor (List ℕ))) (not_null : Bool) (cs : List ColumnForm)
    → columns_with (key_by number) not_null 0 (columns_by number true cs)
    ≡ columns_by number not_null cs
columns_found None not_null cs = keyless not_null 0 (map column_by cs)
columns_found (Some number) not_null cs =
    ap (λ l. column_of number.now Integer not_null ∷ l) (beyond not_null 0 (map column_by cs))

pub as_found : (form : TableForm) (tree : ℕ) (not_null : Bool)
    → found_as (table_by form) tree not_null ≡ table_in form tree not_null
as_found form tree not_null = ap (λ columns. table_of form.name.now tree columns
    (key_by form.number) form.primary.now (places_by form.uniques.now)
    (plain_orders form.uniques.now)) (columns_found form.number not_null form.columns.now)

-- ---- a table of a schema

abbrev AreHarmless : Schema → ℕ → Table → Type 0
AreHarmless schema tree table =
    list_all (λ index. not (index.table == tree) || is_harmless table index) schema.indexes ≡ true

module _ (schema : Schema) (form : TableForm) (place : ℕ)
    (named : table_named schema form.name.now ≡ Some place) (table : Table)
    (listed : slice_get schema.tables place ≡ Some table) where
  has_from : IsKept schema table form → HasTable schema (table_by form)
  has_from kept =
      let not_null = kept.own.0 in
      let own = kept.own.1 in
      record {
        place = place;
        tree = table.tree;
        not_null = not_null;
        named = named;
        listed = listed ∙ ap Some (own.declared ∙ sym (as_found form table.tree not_null));
        own = own.first ∙ ap Some (sym (as_found form table.tree not_null));
        stored = kept.stored;
        harmless = subst (AreHarmless schema table.tree) own.declared kept.harmless;
      }

  module _ (has : HasTable schema (table_by form)) where
    same_place : has.place ≡ place
    same_place = same_Some has.place place (sym has.named ∙ named)

    is : table ≡ table_in form has.tree has.not_null
    is = same_Some table (found_as (table_by form) has.tree has.not_null)
        (sym listed ∙ ap (slice_get schema.tables) (sym same_place) ∙ has.listed)
        ∙ as_found form has.tree has.not_null

    at : table.tree ≡ has.tree
    at = ap (λ (t : Table). t.tree) is

    own : IsOwn schema.tables table form has.not_null
    own = record {
      declared = is ∙ ap (λ n. table_in form n has.not_null) (sym at);
      first = ap (λ n. find (λ (t : Table). t.tree == n) schema.tables) at ∙ has.own
          ∙ ap Some (as_found form has.tree has.not_null)
          ∙ ap (λ n. Some (table_in form n has.not_null)) (sym at);
    }

    kept_from : IsKept schema table form
    kept_from = record {
      own = (has.not_null, own);
      stored = ap (nat_le (2 ^ 31)) at ∙ has.stored;
      harmless = subst₂ (λ tree t. AreHarmless schema tree t) (sym at) (sym is) has.harmless;
    }

  pub decided : (kept : Bool) → Decides kept (IsKept schema table form)
      → Decides kept (HasTable schema (table_by form))
  decided kept it = (λ is. has_from (it.0 is), λ has. it.1 (kept_from has))

-- a schema that has none of its name, or none in the place that the name gives
pub none_named : (schema : Schema) (form : TableForm)
    → table_named schema form.name.now ≡ None → ¬ HasTable schema (table_by form)
none_named schema form none has = absurd (let no = sym has.named ∙ none in cc)

pub none_listed : (schema : Schema) (form : TableForm) (place : ℕ)
    → table_named schema form.name.now ≡ Some place → slice_get schema.tables place ≡ None
    → ¬ HasTable schema (table_by form)
none_listed schema form place named none has =
    let same = same_Some has.place place (sym has.named ∙ named) in
    absurd (let no = sym has.listed ∙ ap (slice_get schema.tables) same ∙ none in cc)
