-- A table as comma-separated values (RFC 4180, section 2).
use Rattle.std.specs.Prelude.{ℕ, ◌==◌, ◌||◌, Bool, false, List, [], ◌∷◌, map, if◌then◌else◌}
use Rattle.std.specs.List.{flat_map}
use Rattle.desk_report.specs.CsvTable.{record_text}

-- a cell that a spreadsheet would take for a formula: it begins with `=`, `+`, `-`, `@`, a tab or a
-- carriage return
abbrev pub is_formula : List ℕ → Bool
is_formula [] = false
is_formula (c ∷ cs) = (c == 61) || ((c == 43) || ((c == 45) || ((c == 64) || ((c == 9) || (c == 13)))))

-- such a cell has an apostrophe before it, so that a spreadsheet takes it for a text
abbrev pub as_text : List ℕ → List ℕ
as_text cell = if is_formula cell then 39 ∷ cell else cell

-- the record of a row
abbrev pub row_text : List (List ℕ) → List ℕ
row_text row = record_text (map as_text row)

-- a record for each row
abbrev pub csv_text : List (List (List ℕ)) → List ℕ
csv_text rows = flat_map row_text rows
