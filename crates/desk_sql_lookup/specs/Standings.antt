-- The standings of duties, from their rows and changes.
use Rattle.std.specs.Prelude.{ℕ, Bool, false, bytes_eq, if◌then◌else◌, List, [], ◌∷◌, ◌++◌, filter, Option, Some, None}
use Rattle.std.specs.List.{last_or}
use Rattle.std.specs.Option.{option_and_then, option_map_or}
use Rattle.desk_history.specs.FromTables.{standing_found, steps_found}
use Rattle.desk_model.specs.Keys.{is_change_of}
use Rattle.desk_model.specs.Names.{duty_state_name}
use Rattle.desk_model.specs.Tables.{Tables}
use Rattle.desk_model.specs.Texts.{is_before}
use Rattle.desk_model.specs.declared.row.ChangeRow.{ChangeRow}
use Rattle.desk_model.specs.declared.row.DutyRow.{DutyRow}
use Rattle.desk_model.specs.declared.row.Standing.{Standing}
use Rattle.desk_sql_layout.specs.declared.rows.StateRow.{StateRow}

-- a duty's number and state
abbrev pub state_row : DutyRow → StateRow
state_row row = record { number = row.number; state = row.state }

-- the standing of a duty, by its number and state
abbrev pub standing_by : Tables → StateRow → Standing
standing_by t row = record {
  number = row.number;
  state = row.state;
  steps = steps_found t row.number;
}

-- a duty is in the state with this name
abbrev pub stands_at : List ℕ → DutyRow → Bool
stands_at state row = bytes_eq (duty_state_name row.state) state

-- the last of some changes is a waiver whose last day is before this one
abbrev pub has_end_before : List ℕ → List ChangeRow → Bool
has_end_before day changes = option_map_or (λ last. is_before last day)
    (option_and_then (λ change. change.last_day) (last_or None changes)) false

-- the standing of a duty, if this is true of its changes
abbrev pub ended_standing : Tables → List ℕ → DutyRow → Option Standing
ended_standing t day row = if has_end_before day (filter (is_change_of row.number) t.changes)
    then Some (standing_found t row) else None

-- a list, and after it an item if there is one
abbrev pub and_some : List Standing → Option Standing → List Standing
and_some found None = found
and_some found (Some standing) = found ++ standing ∷ []
