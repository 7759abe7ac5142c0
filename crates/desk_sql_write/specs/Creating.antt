-- What creating the desk's tables does to a connection.
use Rattle.std.specs.Prelude.{◌≡◌, Bool, [], codes, None, IsTrue, Result, Ok, Err}
use Rattle.std.specs.List.{list_any}
use Rattle.sqlite_schema.specs.declared.schema.Schema.{Schema}
use Rattle.sqlite_schema.specs.Names.{same_name}
use Rattle.sqlite_trees.specs.Tree.{Trees}
use Rattle.sqlite.specs.Effect.{Database}
use Rattle.sqlite.specs.State.{State, HasCleanDisk, KeepsCommit}
use Rattle.desk_model.specs.Tables.{Tables}
use Rattle.desk_model.specs.declared.command.Fault.{Fault}
use Rattle.desk_sql_layout.specs.Layout.{no_schema}
use Rattle.desk_sql_layout.specs.Held.{Holds}
use Rattle.desk_sql_write.specs.Declaring.{IsBare}
use Rattle.desk_sql_write.specs.Taking.{IsCaused}

-- the database has a table `meta`
abbrev pub has_meta : Schema → Bool
has_meta schema = list_any (λ t. same_name t.name (codes "meta")) schema.tables

-- the tables of an empty desk
abbrev pub no_tables : Tables
no_tables = record {
  catalogue = [];
  forms = [];
  rule = [];
  document = [];
  packages = [];
  extracted = [];
  conclusion = [];
  adoption = [];
  releases = [];
  attached = [];
  choice = [];
  frozen = [];
  duty = [];
  changes = [];
}

-- inside a transaction that is still open, a database without tables has become an empty desk's
pub record Founds (old new : State) : Type 0 where
  pub inside : IsTrue new.in_transaction
  pub was_open : IsTrue old.is_open
  pub is_open : IsTrue new.is_open
  pub kept : KeepsCommit old new
  pub holds : IsBare no_schema old.now → Holds no_tables new.now

-- the same by the result: done, or after a fault nothing was committed
abbrev pub HasFounded : State → State → Result (Unit {0}) Fault → Type 0
HasFounded old new (Ok done) = HasCleanDisk new → IsTrue old.in_transaction → Founds old new
HasFounded old new (Err fault) = HasCleanDisk new → IsTrue old.in_transaction → KeepsCommit old new

-- the database is an empty desk's, and all is committed
pub record Created (old new : State) : Type 0 where
  pub was_open : IsTrue old.is_open
  pub is_open : IsTrue new.is_open
  pub settled : new.committed ≡ new.now
  pub holds : IsBare no_schema old.now → Holds no_tables new.now

-- the same for a database that was empty
pub record Founded (old new : State) : Type 0 where
  pub was_open : IsTrue old.is_open
  pub is_open : IsTrue new.is_open
  pub settled : new.committed ≡ new.now
  pub holds : Holds no_tables new.now

-- a stop leaves the tables of an empty desk
abbrev pub LeavesTables : State → Trees → Type 0
LeavesTables old trees = IsTrue old.is_open × (db : Database)
    × (IsBare no_schema old.now → Holds no_tables db) × (trees ≡ db.trees)

-- in an empty database, creating the tables fails only for a cause
pub record FoundFails (old new : State) (fault : Fault) : Type 0 where
  pub cause : HasCleanDisk new → IsTrue old.in_transaction → IsTrue old.is_open
      → old.step_limit ≡ None → IsBare no_schema old.now → IsCaused old new fault

-- the same, in a transaction for this alone
pub record CreateFails (old new : State) (fault : Fault) : Type 0 where
  pub cause : HasCleanDisk new → IsTrue old.is_open → old.step_limit ≡ None
      → IsBare no_schema old.now → IsCaused old new fault
