-- What a statement, a change and a transaction do to a connection.
use Rattle.std.specs.Prelude.{◌≡◌, ℕ, List, IsTrue, Result, Ok, Err}
use Rattle.sqlite_value.specs.Order.{Row}
use Rattle.sqlite.specs.State.{State, HasCleanDisk, KeepsCommit, ExecutesInside}
use Rattle.desk_model.specs.declared.command.Fault.{Fault}
use Rattle.desk_sql_layout.specs.Held.{HasRows}

-- Inside a transaction that is still open, the rows of the database became others, and nothing was
-- committed.
pub record Wrote {A : Type 0} (before after : A → ℕ → List Row) (old new : State) : Type 0 where
  pub inside : IsTrue new.in_transaction
  pub kept : KeepsCommit old new
  pub change : (a : A) → HasRows (before a) old.now → HasRows (after a) new.now

-- the same for a statement, or several, inside a transaction; after a fault nothing was committed
abbrev pub WritesAs : {A : Type 0} → (A → ℕ → List Row) → (A → ℕ → List Row) → State → State
    → Result (Unit {0}) Fault → Type 0
WritesAs before after old new (Ok done) = HasCleanDisk new → IsTrue old.in_transaction
    → Wrote before after old new
WritesAs before after old new (Err fault) = HasCleanDisk new → IsTrue old.in_transaction
    → KeepsCommit old new

-- the same, if the rows afterwards show `made` of what they showed before
abbrev pub Writes : {A : Type 0} → (A → ℕ → List Row) → (A → A) → State → State
    → Result (Unit {0}) Fault → Type 0
Writes rows made = WritesAs rows (λ a. rows (made a))

-- a statement that was run inside a transaction
abbrev pub Ran : List ℕ → Row → State → State → Result (Unit {0}) Fault → Type 0
Ran sql params old new (Ok done) = HasCleanDisk new → IsTrue old.in_transaction
    → (count : ℕ) × ExecutesInside 0 sql params old new (Ok count)
Ran sql params old new (Err fault) = HasCleanDisk new → IsTrue old.in_transaction
    → KeepsCommit old new

-- nothing was committed, and what was begun is undone
pub record Undone (old new : State) : Type 0 where
  pub was_open : IsTrue new.is_open → IsTrue old.is_open
  pub now : IsTrue new.is_open → new.now ≡ old.committed
  pub committed : IsTrue new.is_open → new.committed ≡ old.committed
