-- The last of a list of changes.
use Rattle.std.proofs.Common.{◌≡◌, ℕ, List, [], ◌∷◌, Option, Some, None, refl}
use Rattle.desk_model.specs.Queries.{last_day}
use Rattle.desk_model.specs.declared.row.ChangeRow.{ChangeRow}

-- the last day of some changes, or the one before them
abbrev pub last_or : Option (List ℕ) → List ChangeRow → Option (List ℕ)
last_or day [] = day
last_or day (row ∷ rows) = last_or (Some row.day) rows

last_or-day : (row : ChangeRow) (rows : List ChangeRow)
    → last_or (Some row.day) rows ≡ last_day (row ∷ rows)
last_or-day row [] = refl
last_or-day row (next ∷ rows) = last_or-day next rows

pub last_or-none : (rows : List ChangeRow) → last_or None rows ≡ last_day rows
last_or-none [] = refl
last_or-none (row ∷ rows) = last_or-day row rows
