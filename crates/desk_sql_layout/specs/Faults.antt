-- The desk's fault for an error that the database reports.
use Rattle.sqlite.specs.declared.error.Error.{Error}
use Rattle.sqlite.specs.declared.error.Error.TheVariants.{SqliteFailure}
use Rattle.sqlite.specs.declared.error.ErrorCode.TheVariants.{OutOfMemory}
use Rattle.desk_model.specs.declared.command.Fault.{Fault}
use Rattle.desk_model.specs.declared.command.Fault.TheVariants.{Memory, Store}
use Rattle.desk_model.specs.declared.command.StoreFault.TheVariants.{Database}

-- `Memory` if the error is that no memory was left, or else a fault of the database
abbrev pub fault_by : Error → Fault
fault_by (SqliteFailure OutOfMemory) = Memory
fault_by _ = Store Database
