-- The rows of a page's tables.
use Rattle.std.specs.Prelude.{ℕ, ◌-◌, ◌&&◌, Bool, List, [], ◌∷◌, ◌++◌, codes, count_by, filter}
use Rattle.std.specs.Prelude.{length, map, not, Option, slice_get, unwrap_or}
use Rattle.std.specs.List.{flat_map}
use Rattle.std.specs.Option.{option_map_or}
use Rattle.std.specs.Str.{bytes_eq}
use Rattle.desk_model.specs.Names.{duty_state_name, word_name}
use Rattle.desk_model.specs.declared.bill.BillLine.{BillLine}
use Rattle.desk_model.specs.declared.command.DutyLine.{DutyLine}
use Rattle.desk_model.specs.declared.command.Totals.{Totals}
use Rattle.desk_model.specs.declared.row.ChangeRow.{ChangeRow}
use Rattle.desk_page.specs.Cells.{CellText, name, anchor, link, plain, count, rules, last, bar, row_text}

-- ---- how many duties are in each state

-- a name, a count, and a bar for its share of all duties
abbrev pub total_cells : List ℕ → ℕ → ℕ → List CellText
total_cells word number raised = name word ∷ count number ∷ bar number raised ∷ []

-- all duties, then those in each state; each bar is a share of all
unfoldable pub totals_rows : Totals → List ℕ
totals_rows t =
    row_text (total_cells (codes "Raised") t.raised t.raised
    ++ total_cells (codes "Open") t.still_open t.raised
    ++ total_cells (codes "Met") t.met t.raised ++ total_cells (codes "Waived") t.waived t.raised
    ++ total_cells (codes "Withdrawn") t.withdrawn t.raised)

-- ---- packages

-- its name, its version, its licences and its copyright
unfoldable pub package_row : BillLine → List ℕ
package_row line =
    row_text (name line.name ∷ plain (unwrap_or line.version []) ∷ rules line.rules
    ∷ last (unwrap_or line.copyright (codes "none given")) ∷ [])

-- ---- licences

-- each once, in the order of first use
abbrev pub first_uses : List (List ℕ) → List (List ℕ)
first_uses [] = []
first_uses (text ∷ texts) = text ∷ filter (λ other. not (bytes_eq text other)) (first_uses texts)

-- the licences of duties
unfoldable pub licences : List DutyLine → List (List ℕ)
licences duties = first_uses (map (λ duty. duty.rule) duties)

-- whether a duty is of a licence
abbrev pub is_of : List ℕ → DutyLine → Bool
is_of licence duty = bytes_eq licence duty.rule

-- whether a duty is of a licence and in a state
abbrev pub is_in : List ℕ → List ℕ → DutyLine → Bool
is_in licence state duty = is_of licence duty && bytes_eq state (duty_state_name duty.state)

-- how many duties were raised for a licence, whatever their state
unfoldable pub raised_for : List ℕ → List DutyLine → ℕ
raised_for licence duties = count_by (is_of licence) duties

-- how many of these are in the state of this name
unfoldable pub standing : List ℕ → List ℕ → List DutyLine → ℕ
standing licence state duties = count_by (is_in licence state) duties

-- how many duties a licence has and how many are in each state, with a bar for those that are open
unfoldable pub licence_row : List DutyLine → List ℕ → List ℕ
licence_row duties licence =
    row_text (name licence ∷ count (raised_for licence duties)
    ∷ count (standing licence (codes "met") duties)
    ∷ count (standing licence (codes "waived") duties)
    ∷ count (standing licence (codes "withdrawn") duties)
    ∷ count (standing licence (codes "open") duties)
    ∷ bar (standing licence (codes "open") duties) (raised_for licence duties) ∷ [])

-- ---- duties

-- A day as it is written. Empty if there is none, which no recorded history gives for a duty.
abbrev pub day_text : Option (List ℕ) → List ℕ
day_text day = unwrap_or day []

-- a duty, with an anchor to which its other rows link, and the day of its last change
unfoldable pub duty_row : DutyLine → List ℕ
duty_row duty =
    row_text (anchor duty.number ∷ count duty.document ∷ plain duty.package_id ∷ plain duty.rule
    ∷ plain duty.code
    ∷ plain (duty_state_name duty.state) ∷ last (day_text duty.day) ∷ [])

-- ---- waivers that end

-- the last of a duty's changes, which are in the order of steps
abbrev pub last_change : List ChangeRow → Option ChangeRow
last_change changes = slice_get changes (length changes - 1)

-- what becomes due again after a day, and why it was waived
unfoldable pub ending_row : DutyLine → List ℕ → List ℕ → List ℕ
ending_row duty day reason =
    row_text (link duty.number ∷ plain duty.rule ∷ plain duty.code ∷ plain day
    ∷ last reason ∷ [])

-- only a waiver has a last day
abbrev pub waiver_row : DutyLine → ChangeRow → List ℕ
waiver_row duty change = option_map_or (λ day. ending_row duty day change.body) change.last_day []

-- a row for a duty if its last change is a waiver that ends
unfoldable pub last_waiver : DutyLine → List ChangeRow → List ℕ
last_waiver duty changes = option_map_or (waiver_row duty) (last_change changes) []

-- the same for each duty with its changes
abbrev pub waiver_rows : List DutyLine → List (List ChangeRow) → List ℕ
waiver_rows [] changes = []
waiver_rows (duty ∷ duties) [] = []
waiver_rows (duty ∷ duties) (changes ∷ more) = last_waiver duty changes ++ waiver_rows duties more

-- ---- changes

-- a change: the duty, the day, what was done, the last day of a waiver, and its text
unfoldable pub change_row : ChangeRow → List ℕ
change_row change =
    row_text (link change.duty ∷ plain change.day ∷ plain (word_name change.word)
    ∷ plain (day_text change.last_day)
    ∷ last change.body ∷ [])
