-- When a look-up of a store fails, when a commit does, and when a database isn't adopted.
use Rattle.std.specs.Prelude.{◌≡◌, List, IfErr, IfOk, None, IsTrue, Result}
use Rattle.sqlite_trees.specs.Tree.{Trees}
use Rattle.sqlite.specs.State.{State, HasCleanDisk}
use Rattle.desk_model.specs.Answers.{IsHistory}
use Rattle.desk_model.specs.Readings.{Readings}
use Rattle.desk_model.specs.Tables.{Tables, applied, tables}
use Rattle.desk_model.specs.declared.command.Change.{Change}
use Rattle.desk_model.specs.declared.command.Command.{Command}
use Rattle.desk_model.specs.declared.command.Fault.{Fault}
use Rattle.desk_access.specs.Follows.{Follows}
use Rattle.desk_access.specs.Seen.{Looked, OfRows, Seen}
use Rattle.desk_sql_layout.specs.Held.{labelled, rows_of, seen_of}
use Rattle.desk_sql_layout.specs.Causes.{AreWritten}
use Rattle.desk_sql_write.specs.Taking.{CanStand, HasRoom, IsCaused, rows_in}
use Rattle.desk_store.specs.declared.fault.AdoptFault.{AdoptFault}
use Rattle.desk_store.specs.declared.fault.AdoptFault.TheVariants as adopt
use Rattle.desk_texts.specs.Right.{AreRight}

-- If the rows are as a desk writes them, and the steps of a query have no limit, a look-up of a
-- store fails only if no memory is left, or with a fault of the database if the disk failed once
-- more. `Given` is what else is known of the tables.
pub record MissesIf (Given : Tables → Type 0) (seen : Seen Trees) (old new : State)
    (fault : Fault) : Type 0 where
  pub cause : HasCleanDisk new → IsTrue old.is_open → old.step_limit ≡ None → (t : Tables)
      → seen.holds t → AreWritten t → Given t → IsCaused old new fault

-- what a look-up does to a store, over a connection in these states
pub record FindsGiven {A : Type 0} (Given : Tables → Type 0) (before after : Seen Trees)
    (old new : State) (result : Result A Fault) (Is : A → Tables → Type 0) : Type 0 where
  -- what was found is true of the rows
  pub found : IfOk result (λ x. OfRows (Is x) before after)
  pub kept : Looked before after result
  pub cause : IfErr result (MissesIf Given before old new)

-- a look-up of a store, by what contracts see of the store, and by the state of its connection
abbrev pub FindsIf : {Store A : Type 0} → (Tables → Type 0) → (Store → Seen Trees) → (Store → State)
    → Store → Store → Result A Fault → (A → Tables → Type 0) → Type 0
FindsIf Given seen conn old new = FindsGiven Given (seen old) (seen new) (conn old) (conn new)

-- a look-up that relies on nothing but the rows
abbrev pub Finds : {Store A : Type 0} → (Store → Seen Trees) → (Store → State) → Store → Store
    → Result A Fault → (A → Tables → Type 0) → Type 0
Finds seen conn old new = FindsGiven (λ t. Unit {0}) (seen old) (seen new) (conn old) (conn new)

-- If a change continues the rows, which are as a desk writes them, the tables can hold the rows
-- before and after it, and there are rowids for those that it adds, a commit fails only for such a
-- cause.
pub record CommitFailsFor (change : Change) (seen : Seen Trees) (old new : State)
    (fault : Fault) : Type 0 where
  pub cause : HasCleanDisk new → IsTrue old.is_open → old.step_limit ≡ None → (t : Tables)
      → seen.holds t → AreWritten t → Follows change t
      → CanStand (rows_of t) → CanStand (rows_of (applied change t))
      → HasRoom (rows_in change) (labelled old.now) → IsCaused old new fault

-- they are the tables of a recorded history
pub record AreRecorded (t : Tables) : Type 0 where
  pub w : Readings
  pub right : AreRight w
  pub h : List Command
  pub history : IsHistory w h
  pub is : t ≡ tables w h

-- it is a fault that has a cause
abbrev pub IsCausedFault : State → State → AdoptFault → Type 0
IsCausedFault old new (adopt.Fault fault) = IsCaused old new fault
IsCausedFault old new _ = ⊥

-- If the rows are as a desk writes them, and the steps of a query have no limit, a database is left
-- without being adopted only for such a cause. `Given` is what else is known of the tables.
pub record AdoptFailsIf (Given : Tables → Type 0) (old new : State)
    (fault : AdoptFault) : Type 0 where
  pub cause : HasCleanDisk new → IsTrue old.is_open → old.step_limit ≡ None → (t : Tables)
      → (seen_of old).holds t → AreWritten t → Given t → IsCausedFault old new fault

-- the same for the tables of recorded histories
abbrev pub AdoptFailsFor : State → State → AdoptFault → Type 0
AdoptFailsFor = AdoptFailsIf AreRecorded
