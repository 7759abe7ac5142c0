-- What a write does to the rows of the tables, and why it fails.
use Rattle.std.specs.Prelude.{ℕ, ◌==◌, if◌then◌else◌, List, [], ◌∷◌, ◌++◌, map, filter, Result}
use Rattle.sqlite_value.specs.Order.{Row}
use Rattle.sqlite.specs.State.{State, Survives}
use Rattle.desk_model.specs.declared.command.Fault.{Fault}
use Rattle.desk_model.specs.declared.row.DocumentRow.{DocumentRow}
use Rattle.desk_model.specs.declared.row.PackageRow.{PackageRow}
use Rattle.desk_model.specs.declared.row.ExtractedRow.{ExtractedRow}
use Rattle.desk_model.specs.declared.row.DutyRow.{DutyRow}
use Rattle.desk_model.specs.declared.row.ChangeRow.{ChangeRow}
use Rattle.desk_model.specs.Moves.{is_waiver}
use Rattle.desk_sql_layout.specs.Layout.{document_table, package_table, extracted_table, duty_table}
use Rattle.desk_sql_layout.specs.Layout.{change_table, reading_table, waiver_table}
use Rattle.desk_sql_layout.specs.Cells.{document_cells, package_cells, extracted_cells, duty_cells}
use Rattle.desk_sql_layout.specs.Cells.{change_cells, reading_cells, waiver_cells}
use Rattle.desk_sql_write.specs.Taking.{FailsOnlyAs}
use Rattle.desk_sql_write.specs.Written.{WritesAs}

-- Inside a transaction, a write turns the rows of the tables into others, adds at most this many,
-- fails only for a cause, and leaves nothing that a stop could keep.
pub record Turns {A : Type 0} (before after : A → ℕ → List Row) (many : ℕ) (old new : State)
    (result : Result (Unit {0}) Fault) : Type 0 where
  pub wrote : WritesAs before after old new result
  pub cause : FailsOnlyAs before after many old new result
  pub survives : Survives old new (λ _. ⊥)

-- the same for whatever rows the tables had
abbrev pub Adds : ((ℕ → List Row) → ℕ → List Row) → ℕ → State → State → Result (Unit {0}) Fault
    → Type 0
Adds = Turns (λ rows. rows)

-- more rows in the table with this tree
abbrev pub with_rows : ℕ → List Row → (ℕ → List Row) → ℕ → List Row
with_rows tree more rows other = if other == tree then rows other ++ more else rows other

-- changes of duties, and the last days of the waivers that end
abbrev pub with_steps : List ChangeRow → (ℕ → List Row) → ℕ → List Row
with_steps changes rows = with_rows waiver_table.tree (map waiver_cells (filter is_waiver changes))
    (with_rows change_table.tree (map change_cells changes) rows)

-- duties, and the changes that raise them
abbrev pub with_raised : List DutyRow → List ChangeRow → (ℕ → List Row) → ℕ → List Row
with_raised duties changes rows = with_steps changes
    (with_rows duty_table.tree (map duty_cells duties) rows)

-- a document, and its profile
abbrev pub with_document : DocumentRow → (ℕ → List Row) → ℕ → List Row
with_document row rows = with_rows reading_table.tree (reading_cells row ∷ [])
    (with_rows document_table.tree (document_cells row ∷ []) rows)

-- what a document defines
abbrev pub with_parts : List PackageRow → List ExtractedRow → (ℕ → List Row) → ℕ → List Row
with_parts packages references rows = with_rows extracted_table.tree
    (map extracted_cells references)
    (with_rows package_table.tree (map package_cells packages) rows)
