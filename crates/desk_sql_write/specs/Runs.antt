-- Changes of duties with consecutive numbers.
use Rattle.std.specs.Prelude.{◌≡◌, ℕ, ◌<◌, ◌&&◌, ◌++◌, nat_le, Bool, List, length}
use Rattle.desk_model.specs.Lists.{updated}
use Rattle.desk_model.specs.Tables.{moved_by, with_duty_state}
use Rattle.desk_model.specs.declared.row.ChangeRow.{ChangeRow}
use Rattle.desk_model.specs.declared.row.DutyRow.{DutyRow}
use Rattle.desk_model.specs.declared.state.DutyState.{DutyState}

-- the number of a duty is from the first to the last
abbrev pub is_numbered : ℕ → ℕ → DutyRow → Bool
is_numbered first last row = nat_le first row.number && nat_le row.number last

-- the changes set exactly the duties with these numbers, all to one state
abbrev pub Sets : List ChangeRow → ℕ → ℕ → DutyState → Type 0
Sets changes first last to = (duties : List DutyRow)
    → moved_by changes duties ≡ updated (is_numbered first last) (with_duty_state to) duties

-- changes end with such a run, and these are the ones before it
pub record IsRun (rows before : List ChangeRow) (first last : ℕ) (to : DutyState) : Type 0 where
  pub run : List ChangeRow
  pub whole : rows ≡ before ++ run
  pub some : length before < length rows
  pub sets : Sets run first last to
