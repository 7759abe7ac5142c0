-- The cells of the lists: a row of the columns' names, and one for each line. A cell is empty if
-- its line has nothing for it.
use Rattle.std.specs.Prelude.{ℕ, ℤ, List, [], ◌∷◌, ◌++◌, Option, codes, decimal, map, unwrap_or}
use Rattle.std.specs.Fmt.{signed_decimal}
use Rattle.std.specs.Option.{option_map_or}
use Rattle.desk_model.specs.declared.command.Totals.{Totals}
use Rattle.desk_lists.specs.declared.cells.Cell.{Cell}
use Rattle.desk_lists.specs.declared.cells.Cell.TheVariants.{Text, Number, Count}
use Rattle.desk_lists.specs.declared.lines.DocumentLine.{DocumentLine}
use Rattle.desk_lists.specs.declared.lines.DutyLine.{DutyLine}
use Rattle.desk_lists.specs.declared.lines.ReleaseLine.{ReleaseLine}

-- a cell as its bytes; numbers of tables may be negative, counts are not
abbrev pub cell_text : Cell → List ℕ
cell_text (Text text) = text.now
cell_text (Number number) = signed_decimal number
cell_text (Count count) = decimal count

-- a number of a table, or an empty cell
abbrev pub number_text : Option ℤ → List ℕ
number_text number = option_map_or signed_decimal number []

-- a count, or an empty cell
abbrev pub count_text : Option ℕ → List ℕ
count_text count = option_map_or decimal count []

-- the counts of duties: all, then those in each state
abbrev pub totals_cells : Totals → List (List ℕ)
totals_cells totals =
    decimal totals.raised ∷ decimal totals.still_open ∷ decimal totals.met ∷ decimal totals.waived
    ∷ decimal totals.withdrawn ∷ []

-- the names of the columns of a list of releases
abbrev pub release_names : List (List ℕ)
release_names =
    codes "name" ∷ codes "form" ∷ codes "state" ∷ codes "revision" ∷ codes "raised" ∷ codes "open"
    ∷ codes "met" ∷ codes "waived"
    ∷ codes "withdrawn" ∷ []

-- the cells of a release, in these columns
abbrev pub release_cells : ReleaseLine → List (List ℕ)
release_cells line = line.name ∷ line.form ∷ line.state ∷ signed_decimal line.revision
    ∷ totals_cells line.duties

-- the names, and a row for each release
abbrev pub release_table : List ReleaseLine → List (List (List ℕ))
release_table lines = release_names ∷ map release_cells lines

-- the names of the columns of a list of documents
abbrev pub document_names : List (List ℕ)
document_names =
    codes "number" ∷ codes "name" ∷ codes "namespace" ∷ codes "packages" ∷ codes "shipped"
    ∷ codes "findings" ∷ codes "profile" ∷ []

-- the cells of a document, in these columns
abbrev pub document_cells : DocumentLine → List (List ℕ)
document_cells line =
    signed_decimal line.number ∷ line.name ∷ line.namespace ∷ decimal line.packages
    ∷ decimal line.shipped
    ∷ count_text line.findings ∷ number_text line.profile ∷ []

-- the names, and a row for each document
abbrev pub document_table : List DocumentLine → List (List (List ℕ))
document_table lines = document_names ∷ map document_cells lines

-- the names of the columns of a list of duties
abbrev pub duty_names : List (List ℕ)
duty_names =
    codes "number" ∷ codes "release" ∷ codes "document" ∷ codes "package" ∷ codes "name"
    ∷ codes "rule" ∷ codes "code" ∷ codes "title"
    ∷ codes "state" ∷ codes "raised" ∷ codes "since" ∷ codes "until" ∷ []

-- what a duty is
abbrev pub duty_subject : DutyLine → List (List ℕ)
duty_subject line =
    signed_decimal line.number ∷ line.release ∷ signed_decimal line.document ∷ line.package_id
    ∷ line.package_name ∷ line.rule ∷ line.code
    ∷ line.title ∷ []

-- its state, and since when it has it
abbrev pub duty_standing : DutyLine → List (List ℕ)
duty_standing line = line.state ∷ line.raised ∷ line.changed ∷ unwrap_or line.last_day [] ∷ []

-- the cells of a duty, in these columns
unfoldable pub duty_cells : DutyLine → List (List ℕ)
duty_cells line = duty_subject line ++ duty_standing line

-- the names, and a row for each duty
abbrev pub duty_table : List DutyLine → List (List (List ℕ))
duty_table lines = duty_names ∷ map duty_cells lines
