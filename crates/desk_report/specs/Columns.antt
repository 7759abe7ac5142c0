-- The table of duties laid out in columns, for a terminal. 10 is the line feed and 32 the blank.
use Rattle.std.specs.Prelude.{ℕ, ◌-◌, ◌+◌, false, List, [], ◌∷◌, ◌++◌, map, max}
use Rattle.std.specs.Prelude.{chars, codes, decimal, replicate, unwrap_or}
use Rattle.std.specs.List.{flat_map}
use Rattle.desk_base.specs.Terminal.{shown}
use Rattle.unicode_width.specs.Width.{str_width}
use Rattle.desk_model.specs.Names.{duty_state_name}
use Rattle.desk_model.specs.declared.command.DutyLine.{DutyLine}

-- how many columns a text takes as a terminal shows it
abbrev pub width : List ℕ → ℕ
width text = str_width false (chars (shown text))

-- the names of the columns before the last
abbrev pub front_names : List (List ℕ)
front_names = codes "number" ∷ codes "document" ∷ codes "package" ∷ codes "term" ∷ codes "rule"
    ∷ codes "code" ∷ codes "state" ∷ []

-- the cells of a duty in these columns
abbrev pub front_cells : DutyLine → List (List ℕ)
front_cells line = decimal line.number ∷ decimal line.document ∷ line.package_id ∷ line.term
    ∷ line.rule ∷ line.code ∷ duty_state_name line.state ∷ []

-- the widths of columns, widened for these cells
abbrev pub widened : List ℕ → List (List ℕ) → List ℕ
widened [] cells = []
widened (w ∷ ws) [] = []
widened (w ∷ ws) (cell ∷ cells) = max w (width cell) ∷ widened ws cells

-- the widths of columns, widened for the cells of these duties
abbrev pub widths_with : List ℕ → List DutyLine → List ℕ
widths_with ws [] = ws
widths_with ws (line ∷ lines) = widths_with (widened ws (front_cells line)) lines

-- each column is as wide as its widest text
abbrev pub widths : List DutyLine → List ℕ
widths lines = widths_with (map width front_names) lines

-- a cell, padded to the width of its column, and two blanks
abbrev pub filled : ℕ → List ℕ → List ℕ
filled w cell = shown cell ++ replicate (w - width cell + 2) 32

-- the cells of all columns but the last, each padded
abbrev pub front_text : List ℕ → List (List ℕ) → List ℕ
front_text [] cells = []
front_text (w ∷ ws) [] = []
front_text (w ∷ ws) (cell ∷ cells) = filled w cell ++ front_text ws cells

-- a row: the last cell is not padded
abbrev pub row_line : List ℕ → List (List ℕ) → List ℕ → List ℕ
row_line ws cells last = front_text ws cells ++ last ++ 10 ∷ []

-- the row of a duty; the day of its last change is the last cell
abbrev pub duty_row : List ℕ → DutyLine → List ℕ
duty_row ws line = row_line ws (front_cells line) (unwrap_or line.day [])

-- the names of the columns, and a row for each duty
unfoldable pub columns_text : List DutyLine → List ℕ
columns_text lines = row_line (widths lines) front_names (codes "since")
    ++ flat_map (duty_row (widths lines)) lines
