-- The table of duties as comma-separated values (RFC 4180, section 2), each record ended by LF, as
-- the `csv` crate writes it by default.
use Rattle.std.specs.Prelude.{◌≡◌, ℕ, false, List, [], ◌∷◌, ◌++◌, codes, decimal, unwrap_or}
use Rattle.std.specs.List.{flat_map}
use Rattle.csv.specs.Writing.{default_writer, fields_written, has_written, row_text, writer_setup}
use Rattle.csv.specs.declared.writer.Writer.{Writer}
use Rattle.desk_model.specs.Names.{duty_state_name}
use Rattle.desk_model.specs.declared.command.DutyLine.{DutyLine}

-- a record of these fields: commas between them, quotes where a field needs them, and LF
unfoldable pub record_text : List (List ℕ) → List ℕ
record_text fields = row_text default_writer fields

-- the names of the columns, in the first record
abbrev pub column_names : List (List ℕ)
column_names = codes "number" ∷ codes "document" ∷ codes "package" ∷ codes "term" ∷ codes "rule"
    ∷ codes "code" ∷ codes "state" ∷ codes "since" ∷ []

-- the fields of a duty after its numbers; the day's is empty if there is none, which no recorded
-- history gives
abbrev pub cells_behind : DutyLine → List (List ℕ)
cells_behind line = line.package_id ∷ line.term ∷ line.rule ∷ line.code ∷ duty_state_name line.state
    ∷ unwrap_or line.day [] ∷ []

-- the fields of a duty, in these columns
abbrev pub duty_cells : DutyLine → List (List ℕ)
duty_cells line = decimal line.number ∷ decimal line.document ∷ cells_behind line

-- a duty as a record
abbrev pub duty_record : DutyLine → List ℕ
duty_record line = record_text (duty_cells line)

-- the names of the columns, and a record for each duty
abbrev pub table_text : List DutyLine → List ℕ
table_text lines = record_text column_names ++ flat_map duty_record lines

-- a writer with the crate's defaults, between two records
abbrev pub is_between_rows : {W : Type 0} → Writer W → Type 0
is_between_rows writer = (writer_setup writer ≡ default_writer) × (fields_written writer ≡ 0)
    × (has_written writer ≡ false)
