-- What a query shows of a row if it shows only some of its columns.
use Rattle.std.specs.Prelude.{ℕ, ◌==◌, Bool, IsTrue, List, [], ◌∷◌}
use Rattle.sqlite_value.specs.Order.{Row}
use Rattle.sqlite_value.specs.declared.value.Value.TheVariants.{Text, Blob}
use Rattle.desk_base.specs.Day.{is_day}
use Rattle.desk_base.specs.Profiles.{profile_number}
use Rattle.desk_base.specs.declared.profile.Profile.{Profile}
use Rattle.desk_sql_layout.specs.Cells.{number, text_or_null}
use Rattle.desk_model.specs.declared.row.ChangeRow.{ChangeRow}
use Rattle.desk_model.specs.declared.row.ConclusionRow.{ConclusionRow}
use Rattle.desk_model.specs.declared.row.DocumentRow.{DocumentRow}
use Rattle.desk_model.specs.declared.row.ExtractedRow.{ExtractedRow}
use Rattle.desk_model.specs.Names.{duty_state_name}
use Rattle.desk_sql_layout.specs.declared.rows.StateRow.{StateRow}
use Rattle.desk_sql_layout.specs.declared.rows.Waiver.{Waiver}

-- one column that is a number, as a count
abbrev pub number_cells : ℕ → Row
number_cells n = number n ∷ []

-- one column that is a text
abbrev pub text_cells : List ℕ → Row
text_cells text = Text text ∷ []

-- one column that is a blob
abbrev pub bytes_cells : List ℕ → Row
bytes_cells bytes = Blob bytes ∷ []

-- the number of a document, and its profile
abbrev pub known_cells : ℕ × Profile → Row
known_cells known = number known.0 ∷ number (profile_number known.1) ∷ []

-- the number and the state of a duty
abbrev pub state_cells : StateRow → Row
state_cells row = number row.number ∷ Text (duty_state_name row.state) ∷ []

-- the number of a document, and its namespace
abbrev pub name_cells : DocumentRow → Row
name_cells row = number row.number ∷ Text row.namespace ∷ []

-- the number of a document, and its bytes
abbrev pub import_cells : DocumentRow → Row
import_cells row = number row.number ∷ Blob row.bytes ∷ []

-- the step of a waiver, and its last day
abbrev pub ending_cells : Waiver → Row
ending_cells waiver = number waiver.step ∷ Text waiver.last_day ∷ []

-- its last day exists
abbrev pub EndsOnDay : Waiver → Type 0
EndsOnDay waiver = IsTrue (is_day waiver.last_day)

-- the day of a change
abbrev pub day_cells : ChangeRow → Row
day_cells row = Text row.day ∷ []

-- the text of a reference, or NULL if it has none
abbrev pub extracted_body_cells : ExtractedRow → Row
extracted_body_cells row = text_or_null row.body ∷ []

-- a conclusion for a package of this document
abbrev pub is_conclusion_in : ℕ → ConclusionRow → Bool
is_conclusion_in document row = row.document == document
