-- What a form declares.
use Rattle.std.specs.Prelude.{◌≡◌, ℕ, Bool, List, [], ◌∷◌, map, Option, Some, None, true, false}
use Rattle.std.specs.Borrow.{Bor}
use Rattle.sqlite_value.specs.Keys.{plain}
use Rattle.sqlite_value.specs.declared.keys.Order.{Order}
use Rattle.sqlite_schema.specs.declared.schema.Column.{Column}
use Rattle.sqlite_schema.specs.declared.schema.Kind.TheVariants.{Integer}
use Rattle.sqlite_schema.specs.declared.schema.Table.{Table}
use Rattle.sqlite_schema.specs.declared.schema.Stamps.{Stamps}
use Rattle.desk_sql_adopt.specs.declared.forms.ColumnForm.{ColumnForm}
use Rattle.desk_sql_adopt.specs.declared.forms.ColumnForm.TheVariants.{NotNull, Nullable}
use Rattle.desk_sql_adopt.specs.declared.forms.TableForm.{TableForm}
use Rattle.desk_sql_layout.specs.Layout.{column_of, table_of}

-- a column that isn't the rowid: STRICT, without a default, compared byte by byte
abbrev pub column_by : ColumnForm → Column
column_by (NotNull name kind) = column_of name.now kind true
column_by (Nullable name kind) = column_of name.now kind false

-- the places of each key
abbrev pub places_by : List (Bor (List ℕ)) → List (List ℕ)
places_by = map (λ places. places.now)

-- each key is ascending and compared byte by byte
abbrev pub plain_orders : List (Bor (List ℕ)) → List Order
plain_orders = map (λ places. plain)

-- no default reads the time
abbrev pub no_stamps : Stamps
no_stamps = record { places = []; terms = []; formats = [] }

-- the table has nothing but columns and keys
pub record HasNoMore (table : Table) : Type 0 where
  pub checks : table.checks ≡ []
  pub references : table.references ≡ []
  pub computed : table.computed ≡ []
  pub stamps : table.stamps ≡ no_stamps
  pub counts : table.is_counted ≡ false

-- the number that is the rowid, with or without NOT NULL, and the other columns
abbrev pub columns_by : Option (Bor (List ℕ)) → Bool → List ColumnForm → List Column
columns_by None not_null columns = map column_by columns
columns_by (Some number) not_null columns =
    column_of number.now Integer not_null ∷ map column_by columns

-- the place of the column that is the rowid: the first one, if there is such a column
abbrev pub key_by : Option (Bor (List ℕ)) → Option ℕ
key_by None = None
key_by (Some number) = Some 0

-- the table in this tree
abbrev pub table_in : TableForm → ℕ → Bool → Table
table_in form tree not_null =
    table_of form.name.now tree (columns_by form.number not_null form.columns.now)
    (key_by form.number) form.primary.now (places_by form.uniques.now)
    (plain_orders form.uniques.now)

-- the table where the file has no other tables
abbrev pub table_by : TableForm → Table
table_by form = table_in form form.tree true
