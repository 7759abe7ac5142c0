-- Why the database of a file can't be used, by what the database reports.
use Rattle.sqlite.specs.declared.error.Error.{Error}
use Rattle.sqlite.specs.declared.error.Error.TheVariants.{SqliteFailure}
use Rattle.sqlite.specs.declared.error.ErrorCode.TheVariants as code
use Rattle.desk_subcommands.specs.declared.trouble.Trouble.{Trouble}
use Rattle.desk_subcommands.specs.declared.trouble.Trouble.TheVariants as trouble

-- the trouble for an error of the database
abbrev pub trouble_of_error : Error → Trouble
trouble_of_error (SqliteFailure code.OutOfMemory) = trouble.Memory
trouble_of_error (SqliteFailure code.DatabaseBusy) = trouble.Busy
trouble_of_error (SqliteFailure code.CannotOpen) = trouble.CannotOpen
trouble_of_error (SqliteFailure code.NotADatabase) = trouble.Damaged
trouble_of_error (SqliteFailure code.DatabaseCorrupt) = trouble.Damaged
trouble_of_error (SqliteFailure code.DiskFull) = trouble.Full
trouble_of_error (SqliteFailure code.SystemIoFailure) = trouble.Disk
trouble_of_error (SqliteFailure code.Closed) = trouble.Disk
trouble_of_error _ = trouble.Refused
