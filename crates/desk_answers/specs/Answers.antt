-- The answers as a terminal shows them.
use Rattle.std.specs.Prelude.{◌≡◌, ℕ, List, [], ◌∷◌, ◌++◌, codes, decimal, map, Option, Some, None}
use Rattle.desk_explain.specs.declared.entry.Entry.{Entry}
use Rattle.desk_lists.specs.Cells.{totals_cells}
use Rattle.desk_lists.specs.Columns.{columns_text}
use Rattle.desk_model.specs.declared.command.Answer.{Answer}
use Rattle.desk_model.specs.declared.command.Answer.TheVariants as answer
use Rattle.desk_model.specs.declared.command.PackageLine.{PackageLine}
use Rattle.desk_model.specs.declared.reading.Cheapest.{Cheapest}
use Rattle.desk_model.specs.declared.row.ReleaseRow.{ReleaseRow}
use Rattle.desk_report.specs.Columns.{columns_text as duties_shown}
use Rattle.desk_report.specs.Notices.{notices_text}
use Rattle.desk_report.specs.Terminal.{lines_shown}
use Rattle.desk_answers.specs.Refusals.{AreWanting, IsRefused}
use Rattle.desk_answers.specs.Rows.{change_cells, change_names, cheapest_cells, cheapest_names}
use Rattle.desk_answers.specs.Rows.{closed_names, counted_cells, document_names, finding_cells}
use Rattle.desk_answers.specs.Rows.{gap_cells, gap_names}
use Rattle.desk_answers.specs.Rows.{finding_names, frozen_names, held_cells, held_names, open_cells}
use Rattle.desk_answers.specs.Rows.{open_names, package_cells, package_names, release_cells}
use Rattle.desk_answers.specs.Rows.{release_names, revision_names, totals_names}
use Rattle.desk_answers.specs.Sets.{sets_shown}
use denote.Ref.{Bor}

-- a table of one row
abbrev pub row_shown : List (List ℕ) → List (List ℕ) → List ℕ
row_shown names cells = columns_text (names ∷ cells ∷ [])

-- a table of the cells of each row
abbrev pub rows_shown : {X : Type 0} → List (List ℕ) → (X → List (List ℕ)) → List X → List ℕ
rows_shown names cells rows = columns_text (names ∷ map cells rows)

-- a release, an empty line, and its packages
abbrev pub release_shown : ReleaseRow → List PackageLine → List ℕ
release_shown row packages = row_shown release_names (release_cells row) ++ codes "\n"
    ++ rows_shown package_names package_cells packages

-- the cheapest set, or that there is none
abbrev pub cheapest_shown : Option Cheapest → List ℕ
cheapest_shown (Some found) = row_shown cheapest_names (cheapest_cells found)
cheapest_shown None = codes "none: no set of terms that the catalogue has rules for is enough\n"

-- the text of an answer; a refusal's usual cause is from the tables of explanations
abbrev pub IsShown : Answer → List ℕ → Type 0
IsShown (answer.Revision number) text = text ≡ row_shown revision_names (decimal number ∷ [])
IsShown (answer.Imported number) text = text
    ≡ row_shown document_names (decimal number ∷ codes "yes" ∷ [])
IsShown (answer.Again number) text = text
    ≡ row_shown document_names (decimal number ∷ codes "no" ∷ [])
IsShown answer.Done text = text ≡ codes "done\n"
IsShown (answer.Frozen first count) text = text
    ≡ row_shown frozen_names (decimal first ∷ decimal count ∷ [])
IsShown (answer.Closed count) text = text ≡ row_shown closed_names (decimal count ∷ [])
IsShown (answer.Duties lines) text = text ≡ duties_shown lines
IsShown (answer.Totals totals) text = text ≡ row_shown totals_names (totals_cells totals)
IsShown (answer.Changes rows) text = text ≡ rows_shown change_names change_cells rows
IsShown (answer.Findings rows) text = text ≡ rows_shown finding_names finding_cells rows
IsShown (answer.Release row packages) text = text ≡ release_shown row packages
IsShown (answer.Alternatives sets) text = text ≡ sets_shown sets
IsShown (answer.Cheapest found) text = text ≡ cheapest_shown found
IsShown (answer.Bill bill) text = text ≡ lines_shown (notices_text bill)
IsShown (answer.Releases lines) text = text
    ≡ rows_shown (release_names ++ totals_names) counted_cells lines
IsShown (answer.Documents lines) text = text ≡ rows_shown held_names held_cells lines
IsShown (answer.OpenDuties lines) text = text ≡ rows_shown open_names open_cells lines
IsShown (answer.Wanting refusals) text = AreWanting refusals text
IsShown (answer.Gaps gaps) text = text ≡ rows_shown gap_names gap_cells gaps
IsShown (answer.Refused refusal) text = (tables : List (Bor (List Entry)))
    × IsRefused tables refusal text
