-- Why the database of a file can't be used, by what the desk reports.
use Rattle.desk_model.specs.declared.command.Fault.{Fault}
use Rattle.desk_model.specs.declared.command.Fault.TheVariants as fault
use Rattle.desk_model.specs.declared.command.StoreFault.TheVariants as store
use Rattle.desk_subcommands.specs.declared.trouble.Trouble.{Trouble}
use Rattle.desk_subcommands.specs.declared.trouble.Trouble.TheVariants as trouble

-- the trouble for a fault of the desk
abbrev pub trouble_of_fault : Fault → Trouble
trouble_of_fault fault.Memory = trouble.Memory
trouble_of_fault (fault.Store store.Database) = trouble.Refused
trouble_of_fault (fault.Store store.Rows) = trouble.Rows
