-- What declaring tables one after another makes of a database.
use Rattle.std.specs.Prelude.{◌≡◌, ℕ, ◌+◌, ◌*◌, ◌^◌, nat_lt, nat_le, true, false, not, List, []}
use Rattle.std.specs.Prelude.{◌∷◌, map, length, codes, None, IsTrue, Result, Ok, Err}
use Rattle.std.specs.List.{AllByRecursion, list_all}
use Rattle.sqlite_value.specs.declared.value.Value.TheVariants.{Text}
use Rattle.sqlite_schema.specs.Rules.{table_reals}
use Rattle.sqlite_resolve.specs.declared.compiled.Compiled.{Compiled}
use Rattle.sqlite_resolve.specs.declared.error.CompileError.{CompileError}
use Rattle.sqlite_catalog.specs.Listing.{is_fit, is_formed}
use Rattle.sqlite_schema.specs.declared.schema.Table.{Table}
use Rattle.sqlite_schema.specs.declared.schema.Schema.{Schema}
use Rattle.sqlite_schema.specs.declared.command.Command.TheVariants.{CreateTable}
use Rattle.sqlite_resolve.specs.Compile.{table_defined_by}
use Rattle.sqlite_catalog.specs.Change.{created, next_tree, is_used, is_reserved, automatics}
use Rattle.sqlite.specs.Listing.{understood}
use Rattle.sqlite.specs.Effect.{Database, IsDatabase}
use Rattle.sqlite.specs.Does.{lacks_sequence}
use Rattle.sqlite.specs.Given.{IsPlain}
use Rattle.sqlite.specs.State.{State, HasCleanDisk, KeepsCommit}
use Rattle.sqlite.proofs.Callers.{command_of, statement_of}
use Rattle.desk_model.specs.declared.command.Fault.{Fault}
use Rattle.desk_sql_write.specs.Taking.{IsCaused}

-- the text declares this table in a database with this schema
pub record Declares (text : List ℕ) (table : Table) (schema : Schema) : Type 0 where
  pub is_create : command_of (understood schema text) ≡ CreateTable
  pub whole : statement_of text (understood schema text) ≡ text
  pub plain : IsPlain (understood schema text)
  pub defines : table_defined_by text ≡ Ok table
  pub counts : lacks_sequence (created schema table) ≡ false

-- a statement is whole, and has this many parameters
abbrev pub Fits : List ℕ → ℕ → Result Compiled CompileError → Type 0
Fits sql count (Ok c) = (nat_le (length sql) c.tail ≡ true) × (count ≡ length c.names)
Fits sql count (Err e) = ⊥

-- nothing about the text and its table is a reason to refuse it in a database with this schema
pub record IsTaken (text : List ℕ) (table : Table) (schema : Schema) : Type 0 where
  pub fits : Fits text 0 (understood schema text)
  pub written : list_all (λ byte. nat_lt byte 128) text ≡ true
  pub named : list_all (λ byte. nat_lt byte 128) table.name ≡ true
  pub own : is_reserved table.name ≡ false
  pub unused : is_used schema table.name ≡ false
  pub alone : list_all (λ i. not (is_used schema i.name)) (automatics table 0 0 table.uniques)
      ≡ true
  pub small : nat_lt (2 * length table.name + length text + 200) (10 ^ 9) ≡ true
  pub few : nat_lt (next_tree schema + length table.uniques) 65536 ≡ true
  pub plain : table_reals table ≡ 0
  pub formed : is_formed table ≡ true
  pub listed : is_fit (Text (codes "table")) (Text table.name) (Text table.name) (Text text) ≡ true

-- each text declares its table in the schema that the ones before it made, and is taken
abbrev pub AreDeclared : List (List ℕ × Table) → Schema → Type 0
AreDeclared [] schema = Unit {0}
AreDeclared (d ∷ ds) schema = Declares d.0 d.1 schema
    × (IsTaken d.0 d.1 schema × AreDeclared ds (created schema d.1))

-- a schema with these tables created in it, one after another
abbrev pub schema_after : Schema → List (List ℕ × Table) → Schema
schema_after schema [] = schema
schema_after schema (d ∷ ds) = schema_after (created schema d.1) ds

-- the database has these tables, and all are empty
pub record IsBare (schema : Schema) (db : Database) : Type 0 where
  pub declared : db.schema ≡ schema
  pub empty : AllByRecursion (λ t. db.trees t.tree ≡ []) schema.tables
  pub sound : IsDatabase db

-- the tables of the database are empty, and those that the texts declare complete this schema
pub record Left (texts : List (List ℕ)) (final : Schema) (db : Database) : Type 0 where
  pub tables : List (List ℕ × Table)
  pub schema : Schema
  pub are_texts : map (λ (d : List ℕ × Table). d.0) tables ≡ texts
  pub declared : AreDeclared tables schema
  pub bare : IsBare schema db
  pub final_is : schema_after schema tables ≡ final

-- Inside a transaction that is still open, some of these texts were run, and the rest is left to be
-- run. Nothing was committed.
pub record Went (texts rest : List (List ℕ)) (old new : State) : Type 0 where
  pub inside : IsTrue new.in_transaction
  pub is_open : IsTrue old.is_open → IsTrue new.is_open
  pub kept : KeepsCommit old new
  pub left : (final : Schema) → Left texts final old.now → Left rest final new.now

-- all of the texts were run, or after a fault nothing was committed
abbrev pub HasDeclared : List (List ℕ) → State → State → Result (Unit {0}) Fault → Type 0
HasDeclared texts old new (Ok done) = HasCleanDisk new → IsTrue old.in_transaction
    → Went texts [] old new
HasDeclared texts old new (Err fault) = HasCleanDisk new → IsTrue old.in_transaction
    → KeepsCommit old new

-- if the texts declare their tables, running them fails only for a cause
pub record DeclareFails (texts : List (List ℕ)) (old new : State) (fault : Fault) : Type 0 where
  pub cause : HasCleanDisk new → IsTrue old.in_transaction → IsTrue old.is_open
      → old.step_limit ≡ None → (final : Schema) → Left texts final old.now → IsCaused old new fault
