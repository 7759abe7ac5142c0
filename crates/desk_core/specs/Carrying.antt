-- What carrying out a command does to a store, in terms of the tables that are its rows.
use Rattle.std.specs.Prelude.{Result}
use Rattle.desk_model.specs.Readings.{Readings}
use Rattle.desk_model.specs.Tables.{Tables, applied}
use Rattle.desk_model.specs.declared.command.Answer.{Answer}
use Rattle.desk_model.specs.declared.command.Command.{Command}
use Rattle.desk_model.specs.declared.command.Fault.{Fault}
use Rattle.desk_history.specs.FromTables.{answer_from, change_for}
use Rattle.desk_access.specs.Seen.{Seen, Decides}

module _ {Left : Type 0} where
  -- A command is answered as the tables say and, if it is recorded, they become the tables with its
  -- change.
  abbrev pub CarriesOutFrom : (Left → Tables → Type 0) → Readings → Command → Seen Left → Seen Left
      → Result Answer Fault → Type 0
  CarriesOutFrom stands w c =
      Decides stands (λ _. Unit {0}) (λ t. t) (λ t. applied (change_for w t c) t)
      (λ t. answer_from w t c)
