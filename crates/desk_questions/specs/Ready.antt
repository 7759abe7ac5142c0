-- Whether a duty of the tables keeps its release from being ready.
use Rattle.std.specs.Prelude.{ℕ, Bool, List, Option}
use Rattle.desk_model.specs.Ready.{keeps_back}
use Rattle.desk_model.specs.Tables.{Tables}
use Rattle.desk_model.specs.declared.row.DutyRow.{DutyRow}
use Rattle.desk_history.specs.FromTables.{end_found}

-- by its state and, if it is waived, by the last day that its last change gives
abbrev pub keeps_found : Tables → Option (List ℕ) → DutyRow → Bool
keeps_found t day row = keeps_back day row.state (end_found t row.number)
