-- A table laid out in columns, for a terminal. 10 is the line feed.
use Rattle.std.specs.Prelude.{ℕ, ◌-◌, List, [], ◌∷◌, ◌++◌, length, map, take}
use Rattle.std.specs.List.{flat_map}
use Rattle.desk_base.specs.Terminal.{shown}
use Rattle.desk_report.specs.Columns.{filled, widened, width}

-- the widths of columns, widened for the cells of these rows
abbrev pub widths_with : List ℕ → List (List (List ℕ)) → List ℕ
widths_with ws [] = ws
widths_with ws (row ∷ rows) = widths_with (widened ws row) rows

-- each column but the last is as wide as its widest text
abbrev pub widths : List (List (List ℕ)) → List ℕ
widths [] = []
widths (names ∷ rows) = widths_with (map width (take (length names - 1) names)) rows

-- a row: the cells of the columns that have a width are padded, and what is left is the last cell
abbrev pub row_line : List ℕ → List (List ℕ) → List ℕ
row_line [] cells = flat_map shown cells ++ 10 ∷ []
row_line (w ∷ ws) [] = 10 ∷ []
row_line (w ∷ ws) (cell ∷ cells) = filled w cell ++ row_line ws cells

-- a line for each row
unfoldable pub columns_text : List (List (List ℕ)) → List ℕ
columns_text rows = flat_map (row_line (widths rows)) rows
