-- The steps of a migration, inside its transaction.
use Rattle.std.specs.Prelude.{◌==◌, ℕ, if◌then◌else◌, List, [], ◌∷◌, ◌++◌, IsTrue, Result, Ok, Err}
use Rattle.std.specs.List.{AllByRecursion}
use Rattle.sqlite_value.specs.Order.{Row}
use Rattle.sqlite_schema.specs.declared.schema.Table.{Table}
use Rattle.sqlite.specs.Effect.{Database, IsDatabase}
use Rattle.sqlite.specs.State.{State, HasCleanDisk, KeepsCommit, Survives}
use Rattle.desk_model.specs.declared.command.Fault.{Fault}
use Rattle.desk_sql_layout.specs.Cells.{number}
use Rattle.desk_sql_layout.specs.Desk.{HasDesk}
use Rattle.desk_sql_layout.specs.Held.{HasRows, labelled}
use Rattle.desk_sql_layout.specs.Layout.{meta_table, document_table, reading_table, waiver_table}
use Rattle.desk_sql_layout.specs.Stored.{AreStored}
use Rattle.desk_sql_adopt.specs.Older.{HasOlder, HasOlderRows, HasTables, first_readings, migrated}
use Rattle.desk_sql_adopt.specs.declared.older.OlderVersion.{OlderVersion}

-- the database has these tables of a desk, and is sound
pub record IsWith (tables : List Table) (db : Database) : Type 0 where
  pub declared : HasTables tables db.schema
  pub sound : IsDatabase db

-- they have these rows, in any order
abbrev pub HaveRows : List Table → (ℕ → List Row) → Database → Type 0
HaveRows tables rows db = AllByRecursion (λ t. AreStored t (rows t.tree) (labelled db t.tree)) tables

-- the rows, with none left in one table
abbrev pub with_none : ℕ → (ℕ → List Row) → ℕ → List Row
with_none tree rows at = if at == tree then [] else rows at

-- inside a transaction that is still open, a database with the one tables of a desk became one with
-- the others, and their rows these
pub record Gained (before after : List Table) (made : (ℕ → List Row) → ℕ → List Row)
    (old new : State) : Type 0 where
  pub was_open : IsTrue old.is_open
  pub inside : IsTrue new.in_transaction
  pub kept : KeepsCommit old new
  pub has : IsWith before old.now → IsWith after new.now
  pub rows : IsWith before old.now → (rows : ℕ → List Row) → HaveRows before rows old.now
      → HaveRows after (made rows) new.now

-- done, or after a fault nothing was committed
abbrev pub IfDone : (State → State → Type 0) → State → State → Result (Unit {0}) Fault → Type 0
IfDone Done old new (Ok done) = HasCleanDisk new → IsTrue old.in_transaction → Done old new
IfDone Done old new (Err fault) = HasCleanDisk new → IsTrue old.in_transaction → KeepsCommit old new

-- a step inside a transaction: a stop leaves nothing that it couldn't leave before
pub record IsStep (Done : State → State → Type 0) (old new : State)
    (result : Result (Unit {0}) Fault) : Type 0 where
  pub done : IfDone Done old new result
  pub survives : Survives old new (λ _. ⊥)

-- a step after which the database has the second tables instead of the first, with these rows
abbrev pub Gains : List Table → List Table → ((ℕ → List Row) → ℕ → List Row) → State → State
    → Result (Unit {0}) Fault → Type 0
Gains before after made = IsStep (Gained before after made)

-- the rows with no profile of a document
abbrev pub with_no_readings : (ℕ → List Row) → ℕ → List Row
with_no_readings = with_none reading_table.tree

-- the rows with no last day of a waiver
abbrev pub with_no_waivers : (ℕ → List Row) → ℕ → List Row
with_no_waivers = with_none waiver_table.tree

-- profile 1 is recorded for each document
abbrev pub with_readings : (ℕ → List Row) → ℕ → List Row
with_readings rows at = if at == reading_table.tree
    then first_readings (rows document_table.tree) ++ rows reading_table.tree else rows at

-- no version is recorded
abbrev pub without_version : (ℕ → List Row) → ℕ → List Row
without_version rows at = if at == meta_table.tree then [] else rows at

-- version 3 is recorded, besides what is there
abbrev pub with_version : (ℕ → List Row) → ℕ → List Row
with_version rows at = if at == meta_table.tree then (number 3 ∷ []) ∷ rows at else rows at

-- ---- the whole

-- the rows of a version have become those of this one
abbrev pub Becomes : OlderVersion → Database → Database → Type 0
Becomes version old new = (rows : ℕ → List Row) → HasOlderRows version rows old
    → HasRows (migrated version rows) new

-- the same, inside a transaction that is still open
pub record Upgraded (version : OlderVersion) (old new : State) : Type 0 where
  pub was_open : IsTrue old.is_open
  pub inside : IsTrue new.in_transaction
  pub kept : KeepsCommit old new
  pub declared : HasOlder version old.now.schema → IsDatabase old.now → HasDesk new.now.schema
  pub rows : Becomes version old.now new.now

-- the step that is all of them together
abbrev pub Upgrades : OlderVersion → State → State → Result (Unit {0}) Fault → Type 0
Upgrades version = IsStep (Upgraded version)
