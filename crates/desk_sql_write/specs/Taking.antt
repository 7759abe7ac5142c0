-- What a database can hold, and why a write of a change fails.
use Rattle.std.specs.Prelude.{◌≡◌, ◌⊎◌, ℕ, ◌+◌, ◌-◌, ◌^◌, ◌<◌, ◌≤◌, pos, negsuc, List, ◌∷◌, filter}
use Rattle.std.specs.Prelude.{length, map, None, IsTrue, Result, Ok, Err}
use Rattle.std.specs.List.{AllByRecursion}
use Rattle.sqlite_value.specs.declared.value.Value.{Value}
use Rattle.sqlite_value.specs.declared.value.Value.TheVariants.{Null, Int, Real, Text, Blob}
use Rattle.sqlite_value.specs.Keys.{plain}
use Rattle.sqlite_value.specs.Order.{Row}
use Rattle.sqlite_trees.specs.Tree.{Trees, rowid}
use Rattle.sqlite_schema.specs.Rules.{agree}
use Rattle.sqlite.specs.declared.error.Error.{Error}
use Rattle.sqlite.specs.State.{State, HasCleanDisk, ExecutesInside}
use Rattle.desk_model.specs.declared.command.Change.{Change}
use Rattle.desk_model.specs.declared.command.Change.TheVariants as change
use Rattle.desk_model.specs.declared.command.Fault.{Fault}
use Rattle.desk_model.specs.declared.command.Fault.TheVariants.{Memory, Store}
use Rattle.desk_model.specs.declared.command.StoreFault.TheVariants.{Database as DatabaseFault}
use Rattle.desk_access.specs.Seen.{MoreFaults}
use Rattle.desk_sql_layout.specs.Faults.{fault_by}
use Rattle.desk_sql_layout.specs.Held.{HasRows, labelled}
use Rattle.desk_sql_layout.specs.Layout.{desk_schema}

-- what a cell can hold: NULL, a number of 32 bits, or at most a hundred million bytes
abbrev pub IsSmall : Value → Type 0
IsSmall Null = Unit {0}
IsSmall (Int (pos n)) = n < 2 ^ 32
IsSmall (Int (negsuc n)) = ⊥
IsSmall (Real x) = ⊥
IsSmall (Text text) = length text ≤ 10 ^ 8
IsSmall (Blob bytes) = length bytes ≤ 10 ^ 8

-- this is true of each cell of the desk's tables
abbrev pub AreSmall : (ℕ → List Row) → Type 0
AreSmall rows = AllByRecursion (λ t. AllByRecursion (AllByRecursion IsSmall) (rows t.tree))
    desk_schema.tables

-- The places of a key are counted from the rowid, which is place 0. The cells of a row don't
-- include it, so place p is cell p - 1. A key has place 0 only if the rowid is the number in the
-- first cell and, since 0 - 1 is 0, that is cell 0 too.
abbrev pub in_cells : List ℕ → List ℕ
in_cells = map (λ place. place - 1)

-- at most one of the rows has any one key in these places
abbrev pub StandsOnce : List Row → List ℕ → Type 0
StandsOnce rows places = (key : Row)
    → length (filter (λ row. agree plain (in_cells places) row (in_cells places) key) rows) ≤ 1

-- this is true for each key that is declared unique
abbrev pub HaveKeys : (ℕ → List Row) → Type 0
HaveKeys rows = AllByRecursion
    (λ t. AllByRecursion (StandsOnce (rows t.tree)) (t.primary ∷ t.uniques)) desk_schema.tables

-- rows that the desk's tables can hold
pub record CanStand (rows : ℕ → List Row) : Type 0 where
  pub small : AreSmall rows
  pub keys : HaveKeys rows

-- this many rowids of 64 bits are left after this one
abbrev pub LeavesRoom : ℕ → Value → Type 0
LeavesRoom n (Int (pos id)) = id + n < 2 ^ 63
LeavesRoom n (Int (negsuc id)) = id < 2 ^ 63
LeavesRoom n _ = Unit {0}

-- each table whose rows the database numbers has rowids left for this many more (`labelled` rows)
pub record HasRoom (n : ℕ) (trees : Trees) : Type 0 where
  pub few : n < 2 ^ 62
  pub room : AllByRecursion (λ t. t.key ≡ None
      → AllByRecursion (λ r. LeavesRoom n (rowid r)) (trees t.tree)) desk_schema.tables

-- the error of a statement that was run inside a transaction
abbrev pub RanInto : List ℕ → Row → State → State → Fault → Type 0
RanInto sql params old new fault = HasCleanDisk new → IsTrue old.in_transaction
    → (e : Error) × (fault ≡ fault_by e) × ExecutesInside 0 sql params old new (Err e)

-- the fault is Memory, of which nothing more is known, or one of the database, and then the disk
-- failed once more
abbrev pub IsCaused : State → State → Fault → Type 0
IsCaused old new fault = (fault ≡ Memory)
    ⊎ ((fault ≡ Store DatabaseFault) × MoreFaults old.faults new.faults)

-- a write used at most this many rowids
pub record Uses {A : Type 0} (before : A → ℕ → List Row) (many : ℕ) (old new : State) : Type 0 where
  pub is_open : IsTrue old.is_open → IsTrue new.is_open
  pub room : (a : A) → HasRows (before a) old.now → (n : ℕ)
      → HasRoom (n + many) (labelled old.now) → HasRoom n (labelled new.now)

module _ {A : Type 0} (before after : A → ℕ → List Row) (many : ℕ) (old new : State) where
  -- if the tables can hold the rows before and after, and there are rowids for as many as are
  -- added, a write inside a transaction fails only for such a cause
  pub record FailsFor (fault : Fault) : Type 0 where
    pub cause : HasCleanDisk new → IsTrue old.in_transaction → IsTrue old.is_open
        → old.step_limit ≡ None → (a : A) → HasRows (before a) old.now → CanStand (before a)
        → CanStand (after a) → HasRoom many (labelled old.now) → IsCaused old new fault

  -- a write that was done used at most so many rowids; another one failed for such a cause
  abbrev pub FailsOnlyAs : Result (Unit {0}) Fault → Type 0
  FailsOnlyAs (Ok done) = HasCleanDisk new → IsTrue old.in_transaction → Uses before many old new
  FailsOnlyAs (Err fault) = FailsFor fault

-- the same, if the rows afterwards show `made` of what they showed before
abbrev pub FailsOnlyFor : {A : Type 0} → (A → ℕ → List Row) → (A → A) → ℕ → State → State
    → Result (Unit {0}) Fault → Type 0
FailsOnlyFor rows made = FailsOnlyAs rows (λ a. rows (made a))

-- how many rows a change adds at most
abbrev pub rows_in : Change → ℕ
rows_in (change.Loaded row rules forms) = 1 + length rules
rows_in (change.Imported row packages references) = 2 + (length packages + length references)
rows_in (change.Opened row) = 1
rows_in (change.Attached row) = 1
rows_in (change.Chosen release document package_id rows) = length rows
rows_in (change.Froze release revision rows duties changes) = length rows
    + (length duties + (length changes + length changes))
rows_in (change.Moved changes) = length changes + length changes
rows_in (change.Withdrew release changes) = length changes + length changes
rows_in (change.Concluded row) = 1
rows_in (change.Adopted row) = 1

-- the revision in a freeze is a number of 32 bits
abbrev pub HasSmallRevision : Change → Type 0
HasSmallRevision (change.Froze release revision rows duties changes) = revision < 2 ^ 32
HasSmallRevision _ = Unit {0}
