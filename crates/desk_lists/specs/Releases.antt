-- The line of a release: its row in the table, and how many of its duties are in each state.
use Rattle.std.specs.Prelude.{ℕ, ◌&&◌, Bool, List, count_by}
use Rattle.std.specs.Str.{bytes_eq}
use Rattle.desk_model.specs.Names.{duty_state_name}
use Rattle.desk_model.specs.declared.command.Totals.{Totals}
use Rattle.desk_model.specs.declared.state.DutyState.{DutyState}
use Rattle.desk_model.specs.declared.state.DutyState.TheVariants as duty
use Rattle.desk_snapshot.specs.declared.rows.StoredDuty.{StoredDuty}
use Rattle.desk_snapshot.specs.declared.rows.StoredRelease.{StoredRelease}
use Rattle.desk_lists.specs.declared.lines.ReleaseLine.{ReleaseLine}

-- a duty of the release with this name
abbrev pub is_duty_of : List ℕ → StoredDuty → Bool
is_duty_of release row = bytes_eq row.release release

-- a duty of this release in this state
abbrev pub is_duty_in : List ℕ → DutyState → StoredDuty → Bool
is_duty_in release state row = bytes_eq row.release release
    && bytes_eq row.state (duty_state_name state)

-- how many duties a release has, and how many of these are in each state
abbrev pub totals_among : List StoredDuty → List ℕ → Totals
totals_among duties release = record {
  raised = count_by (is_duty_of release) duties;
  still_open = count_by (is_duty_in release duty.IsOpen) duties;
  met = count_by (is_duty_in release duty.Met) duties;
  waived = count_by (is_duty_in release duty.Waived) duties;
  withdrawn = count_by (is_duty_in release duty.Withdrawn) duties;
}

-- the line of a release's row, with the counts of its duties
abbrev pub release_line : List StoredDuty → StoredRelease → ReleaseLine
release_line duties row = record {
  name = row.name;
  place = row.place;
  form = row.form;
  state = row.state;
  revision = row.revision;
  duties = totals_among duties row.name;
}
