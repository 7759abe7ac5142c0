-- The lines of totals and of changes. 10 is the line feed, 32 the blank.
use Rattle.std.specs.Prelude.{ℕ, Bool, List, [], ◌∷◌, ◌++◌, codes, decimal, Option, Some, None}
use Rattle.std.specs.Prelude.{if◌then◌else◌}
use Rattle.std.specs.List.{flat_map}
use Rattle.desk_base.specs.Terminal.{shown}
use Rattle.desk_model.specs.Names.{word_name}
use Rattle.desk_model.specs.declared.command.Totals.{Totals}
use Rattle.desk_model.specs.declared.row.ChangeRow.{ChangeRow}

-- a word, a blank and a number
abbrev pub counted : List ℕ → ℕ → List ℕ
counted word count = word ++ codes " " ++ decimal count

-- how many duties were raised, and how many of these are in each state
abbrev pub totals_line : Totals → List ℕ
totals_line t = counted (codes "raised") t.raised ++ counted (codes " open") t.still_open
    ++ counted (codes " met") t.met
    ++ counted (codes " waived") t.waived ++ counted (codes " withdrawn") t.withdrawn ++ codes "\n"

-- a word after a blank
abbrev pub spaced : List ℕ → List ℕ
spaced word = 32 ∷ word

-- `until` and the last day of a waiver that ends, each after a blank
abbrev pub until : Option (List ℕ) → List ℕ
until None = []
until (Some day) = spaced (codes "until") ++ spaced day

-- the text of a change after a blank, or nothing if the text is empty
abbrev pub behind : List ℕ → List ℕ
behind [] = []
behind (b ∷ more) = spaced (b ∷ more)

-- the step, the day and the word of a change
abbrev pub front : ChangeRow → List ℕ
front row = decimal row.step ++ spaced row.day ++ spaced (word_name row.word)

-- the line of a change, with a text
abbrev pub line_with : List ℕ → ChangeRow → List ℕ
line_with body row = front row ++ until row.last_day ++ behind body ++ 10 ∷ []

-- the line of a change
abbrev pub change_text : ChangeRow → List ℕ
change_text row = line_with row.body row

-- the same as a terminal shows it
abbrev pub change_shown : ChangeRow → List ℕ
change_shown row = line_with (shown row.body) row

-- the lines of changes; on a terminal as it shows them
abbrev pub changes_on : Bool → List ChangeRow → List ℕ
changes_on is_terminal rows = if is_terminal then flat_map change_shown rows
    else flat_map change_text rows
