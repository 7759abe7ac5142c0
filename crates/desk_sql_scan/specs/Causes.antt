-- When reading all rows of a table fails.
use Rattle.std.specs.Prelude.{◌≡◌, ◌⊎◌, None, IsTrue}
use Rattle.sqlite_value.specs.Order.{Row}
use Rattle.sqlite.specs.State.{State, HasCleanDisk}
use Rattle.desk_model.specs.Tables.{Tables}
use Rattle.desk_model.specs.declared.command.Fault.{Fault}
use Rattle.desk_model.specs.declared.command.Fault.TheVariants.{Memory, Store}
use Rattle.desk_model.specs.declared.command.StoreFault.TheVariants.{Database as DatabaseFault}
use Rattle.desk_access.specs.Seen.{MoreFaults}
use Rattle.desk_sql_layout.specs.Held.{Holds}
use Rattle.desk_sql_layout.specs.Causes.{AreWritten, IsRow}

-- they are the cells of a row, as a desk writes them
abbrev pub AreCells : {A : Type 0} → (A → Row) → Row → Type 0
AreCells {A} cells_of row = IsRow row × ((x : A) × (row ≡ cells_of x))

-- If the rows that are shown, committed or not, are as a desk writes them, and the steps of a query
-- have no limit, reading fails only if no memory is left, or with a fault of the database if the
-- disk failed once more. `Given` is what its caller says besides.
pub record ScanFailsIf (Given : Type 0) (old new : State) (fault : Fault) : Type 0 where
  pub cause : HasCleanDisk new → IsTrue old.is_open → old.step_limit ≡ None → (t : Tables)
      → Holds t old.now → AreWritten t → Given
      → (fault ≡ Memory) ⊎ ((fault ≡ Store DatabaseFault) × MoreFaults old.faults new.faults)

-- the same if its caller says nothing more
abbrev pub ScanFailsFor : State → State → Fault → Type 0
ScanFailsFor = ScanFailsIf (Unit {0})
