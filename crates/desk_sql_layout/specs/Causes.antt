-- When a look-up fails.
use Rattle.std.specs.Prelude.{◌≡◌, ◌⊎◌, ◌<◌, ◌^◌, ℕ, pos, negsuc, true, false, nat_le, List, []}
use Rattle.std.specs.Prelude.{length, None, IfSome, IsTrue, IsUtf8, Ok}
use Rattle.std.specs.List.{AllByRecursion}
use Rattle.sqlite_value.specs.declared.value.Value.{Value}
use Rattle.sqlite_value.specs.declared.value.Value.TheVariants.{Null, Int, Real, Text, Blob}
use Rattle.sqlite_value.specs.Order.{Row}
use Rattle.sqlite_sql.specs.Query.{Query}
use Rattle.sqlite_schema.specs.declared.schema.Schema.{Schema}
use Rattle.sqlite_schema.specs.declared.command.Command.TheVariants.{Select}
use Rattle.sqlite_resolve.specs.declared.compiled.Compiled.{Compiled}
use Rattle.sqlite.specs.declared.error.Error.{Error}
use Rattle.sqlite.specs.Effect.{Database, RefusesToRead}
use Rattle.sqlite.specs.Given.{IsPlain}
use Rattle.sqlite.specs.Listing.{understood, reads_listing}
use Rattle.sqlite.specs.State.{State, HasCleanDisk}
use Rattle.desk_base.specs.Day.{is_day}
use Rattle.desk_model.specs.Tables.{Tables}
use Rattle.desk_model.specs.declared.row.ChangeRow.{ChangeRow}
use Rattle.desk_model.specs.declared.command.Fault.{Fault}
use Rattle.desk_model.specs.declared.command.Fault.TheVariants.{Memory, Store}
use Rattle.desk_model.specs.declared.command.StoreFault.TheVariants.{Database as DatabaseFault}
use Rattle.desk_access.specs.Seen.{MoreFaults}
use Rattle.desk_sql_layout.specs.Held.{rows_of, seen_of}
use Rattle.desk_sql_layout.specs.Desk.{HasDesk}

-- what a desk writes into a cell: NULL, a number of 32 bits, a text in UTF-8, or bytes
abbrev pub IsWritten : Value → Type 0
IsWritten Null = Unit {0}
IsWritten (Int (pos n)) = n < 2 ^ 32
IsWritten (Int (negsuc n)) = ⊥
IsWritten (Real x) = ⊥
IsWritten (Text text) = IsUtf8 text
IsWritten (Blob bytes) = Unit {0}

-- a row of such cells
abbrev pub IsRow : Row → Type 0
IsRow = AllByRecursion IsWritten

-- the day of a change exists
abbrev pub HasDay : ChangeRow → Type 0
HasDay change = IsTrue (is_day change.day)

-- and its last day, if it is a waiver that ends
abbrev pub HasLastDay : ChangeRow → Type 0
HasLastDay change = IfSome change.last_day (λ day. IsTrue (is_day day))

-- rows as a desk writes them: each cell of each table, and the days of changes
pub record AreWritten (t : Tables) : Type 0 where
  pub cells : (tree : ℕ) → AllByRecursion IsRow (rows_of t tree)
  pub days : AllByRecursion HasDay t.changes
  pub last_days : AllByRecursion HasLastDay t.changes

-- If the rows are as a desk writes them, and the steps of a query have no limit, a look-up fails
-- only if no memory is left, or with a fault of the database if the disk failed once more. `Is` is
-- what its caller says of the tables.
pub record HasCauseIf (Is : Tables → Type 0) (old new : State) (fault : Fault) : Type 0 where
  pub cause : HasCleanDisk new → IsTrue old.is_open → old.step_limit ≡ None → (t : Tables)
      → (seen_of old).holds t → AreWritten t → Is t
      → (fault ≡ Memory) ⊎ ((fault ≡ Store DatabaseFault) × MoreFaults old.faults new.faults)

-- the same for a look-up that relies on nothing but the rows
abbrev pub HasCause : State → State → Fault → Type 0
HasCause = HasCauseIf (λ t. Unit {0})

-- a query that is one statement, has as many parameters as are given, and is never refused for a
-- value, in this schema
pub record IsAskedIn (schema : Schema) (sql : List ℕ) (params : Row) : Type 0 where
  pub compiled : Compiled
  pub is : understood schema sql ≡ Ok compiled
  pub plain : IsPlain (Ok compiled)
  pub query : Query
  pub names : List (List ℕ)
  pub selects : compiled.command ≡ Select (record { lets = []; body = query }) names
  pub unlisted : reads_listing schema sql ≡ false
  pub whole : nat_le (length sql) compiled.tail ≡ true
  pub given : length params ≡ length compiled.names
  pub answers : (db : Database) (e : Error) → db.schema ≡ schema
      → ¬ RefusesToRead None compiled.command db params e

-- and in each schema that has the desk's tables
pub record IsAsked (sql : List ℕ) (params : Row) : Type 0 where
  pub within : (schema : Schema) → HasDesk schema → IsAskedIn schema sql params

-- a text that returns no rows of a write and reads no clock, in each such schema
pub record IsPlainText (sql : List ℕ) : Type 0 where
  pub within : (schema : Schema) → HasDesk schema → IsPlain (understood schema sql)
