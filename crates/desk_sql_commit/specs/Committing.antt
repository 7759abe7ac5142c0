-- What the transaction of a change does to a connection, and why it fails.
use Rattle.std.specs.Prelude.{◌≡◌, Bool, None, IsTrue}
use Rattle.sqlite_trees.specs.Tree.{Trees}
use Rattle.sqlite.specs.Effect.{Database}
use Rattle.sqlite.specs.State.{State, HasCleanDisk}
use Rattle.desk_model.specs.Tables.{Tables, applied}
use Rattle.desk_model.specs.declared.command.Change.{Change}
use Rattle.desk_model.specs.declared.command.Fault.{Fault}
use Rattle.desk_access.specs.Seen.{Seen}
use Rattle.desk_sql_layout.specs.Held.{HasRows, labelled, rows_of}
use Rattle.desk_sql_write.specs.Replacing.{Takes}
use Rattle.desk_sql_write.specs.Taking.{CanStand, HasRoom, IsCaused, rows_in}

module _ (is_new : Bool) (change : Change) where
  -- the change was made, whatever tables the database had, and committed
  pub record Done (old new : State) : Type 0 where
    pub was_open : IsTrue old.is_open
    pub is_open : IsTrue new.is_open
    pub settled : new.committed ≡ new.now
    pub made : (t : Tables) → Takes is_new change t → HasRows (rows_of t) old.now
        → HasRows (rows_of (applied change t)) new.now

  -- a stop leaves the change
  abbrev pub Leaves : State → Trees → Type 0
  Leaves old trees = (db : Database)
      × ((t : Tables) → Takes is_new change t → HasRows (rows_of t) old.now
      → HasRows (rows_of (applied change t)) db)
      × (trees ≡ db.trees)

  -- If the tables can hold the rows before and after the change, and there are rowids for those
  -- that it adds, its transaction fails only for such a cause.
  pub record CommitFails (old new : State) (fault : Fault) : Type 0 where
    pub cause : HasCleanDisk new → IsTrue old.is_open → old.step_limit ≡ None → (t : Tables)
        → Takes is_new change t
        → HasRows (rows_of t) old.now → CanStand (rows_of t) → CanStand (rows_of (applied change t))
        → HasRoom (rows_in change) (labelled old.now) → IsCaused old new fault

  -- what contracts see of a store with such tables, as far as its disk is honest
  abbrev pub taking : Seen Trees → Seen Trees
  taking s = record {
    holds = λ t. (s.is_honest → Takes is_new change t) × s.holds t;
    is_honest = s.is_honest;
    is_open = s.is_open;
    faults = s.faults;
    leaves = s.leaves;
  }
