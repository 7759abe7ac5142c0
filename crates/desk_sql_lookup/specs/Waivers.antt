-- The last days of waivers, which are in a table apart from the changes of a duty.
use Rattle.std.specs.Prelude.{◌≡◌, ◌==◌, ℕ, false, if◌then◌else◌, List, [], ◌∷◌, map, filter}
use Rattle.std.specs.Prelude.{Option, Some, None, unwrap_or}
use Rattle.sqlite_trees.specs.Tree.{IsAscending}
use Rattle.desk_model.specs.declared.row.ChangeRow.{ChangeRow}
use Rattle.desk_model.specs.Moves.{is_waiver}
use Rattle.desk_sql_layout.specs.declared.rows.Waiver.{Waiver}

-- no two changes have the same step
abbrev pub AreSteps : List ChangeRow → Type 0
AreSteps = IsAscending (λ a b. (a.step == b.step) ≡ false)

-- the waiver of a change: its step and its last day; asked only of changes that have one
abbrev pub waiver_of : ChangeRow → Waiver
waiver_of row = record { step = row.step; last_day = unwrap_or row.last_day [] }

-- the waivers that end among some changes
abbrev pub waivers_in : List ChangeRow → List Waiver
waivers_in rows = map waiver_of (filter is_waiver rows)

-- the last day of a step's waiver, if that is the first of these, and the waivers that are left
abbrev pub taken : ℕ → List Waiver → Option (List ℕ) × List Waiver
taken step [] = (None, [])
taken step (waiver ∷ waivers) = if waiver.step == step then (Some waiver.last_day, waivers)
    else (None, waiver ∷ waivers)
