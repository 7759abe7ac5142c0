-- How many changes duties with consecutive numbers have.
use Rattle.std.specs.Prelude.{◌≡◌, ◌<◌, ◌+◌, ◌==◌, ◌&&◌, ℕ, Bool, List, filter, length, nat_le, slice_index_or}
use Rattle.desk_model.specs.Tables.{Tables}
use Rattle.desk_model.specs.declared.row.ChangeRow.{ChangeRow}
use Rattle.desk_history.specs.FromTables.{steps_found}

-- a change of one of the duties from a first to a last one
abbrev pub is_change_within : ℕ → ℕ → ChangeRow → Bool
is_change_within first last change = nat_le first change.duty && nat_le change.duty last

-- how often each number, from a first one on, is among some numbers
abbrev pub AreCounts : ℕ → List ℕ → List ℕ → Type 0
AreCounts first numbers counts = (i : ℕ) → i < length counts
    → slice_index_or counts i 0 ≡ length (filter (λ n. n == first + i) numbers)

-- how many changes each duty has, from a first one on
abbrev pub HaveSteps : ℕ → List ℕ → Tables → Type 0
HaveSteps first steps t = (i : ℕ) → i < length steps
    → slice_index_or steps i 0 ≡ steps_found t (first + i)
