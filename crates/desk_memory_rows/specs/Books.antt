-- What a ledger holds.
use Rattle.std.specs.Prelude.{Bool, List}
use Rattle.desk_model.specs.declared.row.DutyRow.{DutyRow}
use Rattle.desk_model.specs.declared.row.ChangeRow.{ChangeRow}
use Rattle.desk_model.specs.declared.command.Change.{Change}
use Rattle.desk_memory_rows.specs.Ledgers.{all_of, can_take}
use Rattle.desk_memory_rows.specs.declared.ledger.Ledger.{Ledger}

-- all duties, by number
abbrev pub duties_in : Ledger → List DutyRow
duties_in ledger = ledger.duties.items

-- all changes, by duty and step
abbrev pub changes_in : Ledger → List ChangeRow
changes_in ledger = all_of ledger.groups.items

-- the duties and changes of a change follow those that exist
abbrev pub takes : Change → Ledger → Bool
takes c ledger = can_take c ledger.duties.items ledger.groups.items
