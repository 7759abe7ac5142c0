-- Rows added to a text, as lines or as the items of a JSON array.
use Rattle.std.specs.Prelude.{◌≡◌, ℕ, Bool, true, false, List, [], ◌∷◌, ◌++◌}
use Rattle.serde_json.specs.Written.{comma_if}
use Rattle.desk_tree_problems.specs.declared.row.Row.{Row}
use Rattle.desk_tree_reports.specs.declared.telling.Form.{Form}
use Rattle.desk_tree_reports.specs.declared.telling.Form.TheVariants.{Lines, Json}
use Rattle.desk_tree_reports.specs.declared.telling.Telling.{Telling}
use Rattle.desk_tree_reports.specs.Items.{row_json}
use Rattle.desk_tree_reports.specs.Lines.{line_if}

-- what is written for a row, with others before it or not
abbrev pub row_text : Form → Bool → Row → List ℕ
row_text (Lines only) later row = line_if only row
row_text Json later row = comma_if later ++ row_json row

-- what is written for rows that follow one another
abbrev pub rows_text : Form → Bool → List Row → List ℕ
rows_text form later [] = []
rows_text form later (row ∷ rows) = row_text form later row ++ rows_text form true rows

-- there is at least one row, so that the next one needs a comma
abbrev pub are_some : List Row → Bool
are_some [] = false
are_some (row ∷ rows) = true

-- a text that was begun so, and to which these rows were added
pub record Tells (form : Form) (start : List ℕ) (rows : List Row) (t : Telling) : Type 0 where
  pub text : t.text ≡ start ++ rows_text form false rows
  pub later : t.later ≡ are_some rows

-- these rows are added behind all others
abbrev pub AddsRows : Form → List Row → Telling → Telling → Type 0
AddsRows form rows old new = (start : List ℕ) (before : List Row) → Tells form start before old
    → Tells form start (before ++ rows) new
