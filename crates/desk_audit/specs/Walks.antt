-- Rows one after another, from one of them on.
use Rattle.std.specs.Prelude.{ℕ, ◌+◌, pos, ◌&&◌, Bool, true, false, List, [], ◌∷◌, Option}
use Rattle.std.specs.Option.{option_map_or}
use Rattle.std.specs.Ordering.{int_eq}
use Rattle.std.specs.declared.option.Option.TheVariants.{None, Some}
use Rattle.desk_snapshot.specs.Changes.{goes_on, is_formed, is_raising, leaves}
use Rattle.desk_snapshot.specs.declared.rows.StoredChange.{StoredChange}
use Rattle.desk_snapshot.specs.declared.rows.StoredDuty.{StoredDuty}
use Rattle.desk_snapshot.specs.declared.snapshot.Snapshot.{Snapshot}

-- the duties have the numbers n, n + 1 and so on
abbrev pub count_from : ℕ → List StoredDuty → Bool
count_from n [] = true
count_from n (row ∷ rows) = int_eq row.number (pos n) && count_from (n + 1) rows

-- a change raises the duty, or goes on from the one before it
abbrev pub follows : Snapshot → Option StoredChange → StoredChange → Bool
follows s None row = is_raising row
follows s (Some before) row = goes_on s before row

-- a change that may be at a step, after another
abbrev pub is_next : Snapshot → Option StoredChange → ℕ → StoredChange → Bool
is_next s before step row = int_eq row.step (pos step) && (is_formed row && follows s before row)

-- changes from a step on, after another; the last of all leaves the duty in this state
abbrev pub lead : Snapshot → List ℕ → Option StoredChange → ℕ → List StoredChange → Bool
lead s state before step [] = option_map_or (leaves state) before false
lead s state before step (row ∷ rows) = is_next s before step row
    && lead s state (Some row) (step + 1) rows
