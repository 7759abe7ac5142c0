-- What the rows of answers say, by the rows of the tables.
use Rattle.std.specs.Prelude.{◌≡◌, ℕ, Bool, List, [], ◌∷◌, ◌++◌, length, filter, Option, Some, codes}
use Rattle.std.specs.Str.{bytes_eq}
use Rattle.desk_model.specs.Keys.{is_change_of}
use Rattle.desk_model.specs.Names.{duty_state_name, word_name}
use Rattle.desk_model.specs.Queries.{queried}
use Rattle.desk_model.specs.Readings.{Readings}
use Rattle.desk_model.specs.declared.command.Answer.TheVariants as answered
use Rattle.desk_model.specs.declared.command.Command.{Command}
use Rattle.desk_model.specs.declared.command.Query.TheVariants as query
use Rattle.desk_model.specs.declared.command.DutyLine.{DutyLine}
use Rattle.desk_model.specs.declared.command.Totals.{Totals}
use Rattle.desk_model.specs.declared.row.ChangeRow.{ChangeRow}
use Rattle.desk_model.specs.declared.row.DutyRow.{DutyRow}

-- the line of a duty: its columns, and the day of the last of its changes
pub record IsLineOf (changes : List ChangeRow) (row : DutyRow) (line : DutyLine) : Type 0 where
  pub number : line.number ≡ row.number
  pub document : line.document ≡ row.document
  pub package_id : line.package_id ≡ row.package_id
  pub term : line.term ≡ row.term
  pub rule : line.rule ≡ row.rule
  pub code : line.code ≡ row.code
  pub state : line.state ≡ row.state
  pub day : (before : List ChangeRow) (last : ChangeRow)
      → filter (is_change_of row.number) changes ≡ before ++ (last ∷ []) → line.day ≡ Some last.day

-- a line for each duty, in the same order
abbrev pub AreLinesOf : List ChangeRow → List DutyRow → List DutyLine → Type 0
AreLinesOf changes [] [] = Unit {0}
AreLinesOf changes [] (line ∷ lines) = ⊥
AreLinesOf changes (row ∷ rows) [] = ⊥
AreLinesOf changes (row ∷ rows) (line ∷ lines) = IsLineOf changes row line
    × AreLinesOf changes rows lines

-- how many duties are in the state of this name
abbrev pub count_named : List ℕ → List DutyRow → ℕ
count_named name rows = length (filter (λ row. bytes_eq (duty_state_name row.state) name) rows)

-- the totals count these duties: all of them, and those in each state by its name
pub record AreTotalsOf (rows : List DutyRow) (totals : Totals) : Type 0 where
  pub raised : totals.raised ≡ length rows
  pub still_open : totals.still_open ≡ count_named (codes "open") rows
  pub met : totals.met ≡ count_named (codes "met") rows
  pub waived : totals.waived ≡ count_named (codes "waived") rows
  pub withdrawn : totals.withdrawn ≡ count_named (codes "withdrawn") rows

-- these duties keep a release from being ready, for a day if one is given
abbrev pub ListsBack : Readings → List Command → List ℕ → Option (List ℕ) → List DutyLine → Type 0
ListsBack w h r day lines = queried w h (query.Ready r day) ≡ answered.Duties lines

-- a change by which a waiver ended
abbrev pub is_ended : ChangeRow → Bool
is_ended row = bytes_eq (word_name row.word) (codes "ended")
