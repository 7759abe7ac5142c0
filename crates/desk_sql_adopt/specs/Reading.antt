-- What reading from a database does to a connection, whatever its schema.
use Rattle.std.specs.Prelude.{◌≡◌, ℕ, List, None, IsTrue, Result, Ok, Err}
use Rattle.sqlite_value.specs.Order.{Row}
use Rattle.sqlite_schema.specs.declared.schema.Schema.{Schema}
use Rattle.sqlite_resolve.specs.declared.compiled.Compiled.{Compiled}
use Rattle.sqlite.specs.Clock.{timed}
use Rattle.sqlite.specs.Effect.{Database, Reads}
use Rattle.sqlite.specs.Listing.{understood, reads_listing, IsSourceOf}
use Rattle.sqlite.specs.State.{State, HasCleanDisk, IsStatement, Survives}
use Rattle.desk_model.specs.declared.command.Fault.{Fault}

-- the text writes in no database
abbrev pub Asks : List ℕ → Type 0
Asks sql = (schema : Schema) (c : Compiled) → understood schema sql ≡ Ok c → c.returning ≡ None

-- The connection shows what it showed, as far as it still shows anything, and a stop leaves nothing
-- that it couldn't leave before.
pub record IsSpared (old new : State) : Type 0 where
  pub survives : Survives old new (λ _. ⊥)
  pub was_open : HasCleanDisk new → IsTrue new.is_open → IsTrue old.is_open
  pub now : HasCleanDisk new → IsTrue new.is_open → new.now ≡ old.now
  pub committed : HasCleanDisk new → IsTrue new.is_open → new.committed ≡ old.committed

-- and the connection is still open if it was open
abbrev pub HasStayed : State → State → Type 0
HasStayed old new = IsSpared old new × (HasCleanDisk new → IsTrue old.is_open → IsTrue new.is_open)

-- what reading leaves: after an answer the connection is still open, after a fault maybe not
abbrev pub HasRead : {A : Type 0} → State → State → Result A Fault → Type 0
HasRead old new (Ok x) = HasStayed old new
HasRead old new (Err fault) = IsSpared old new

-- the database answers a text that only reads with these rows
abbrev pub Answers : List ℕ → Row → State → List Row → Type 0
Answers sql params s rows =
    (c : Compiled) × (it : IsStatement s sql params c) × (c.returning ≡ None) × (db : Database)
    × IsSourceOf (reads_listing s.now.schema sql) s.now db
    × Reads c.command db (timed params c.formats it.now) rows
