-- The parts of replies: numbers, lists and the rows of an answer.
use Rattle.std.specs.Prelude.{ℕ, List, [], ◌∷◌, ◌++◌, map, unwrap_or, Option, Some, None}
use Rattle.serde_json.specs.Data.{Data, number, unsigned, string, array}
use Rattle.serde_json.specs.View.{items_of}
use Rattle.desk_base.specs.Profiles.{profile_number}
use Rattle.desk_model.specs.Names.{duty_state_name, release_state_name, word_name}
use Rattle.desk_model.specs.declared.row.ChangeRow.{ChangeRow}
use Rattle.desk_model.specs.declared.row.ReleaseRow.{ReleaseRow}
use Rattle.desk_model.specs.declared.command.DocumentLine.{DocumentLine}
use Rattle.desk_model.specs.declared.command.DutyLine.{DutyLine}
use Rattle.desk_model.specs.declared.command.OpenDuty.{OpenDuty}
use Rattle.desk_model.specs.declared.command.PackageLine.{PackageLine}
use Rattle.desk_model.specs.declared.command.ReleaseLine.{ReleaseLine}
use Rattle.desk_model.specs.declared.command.Totals.{Totals}
use Rattle.desk_model.specs.Gaps.{gap_name}
use Rattle.desk_model.specs.declared.finding.Finding.{Finding}
use Rattle.desk_model.specs.declared.gap.Gap.{Gap}
use Rattle.desk_model.specs.FindingKinds.{kind_number, kind_name}
use Rattle.desk_model.specs.declared.reading.Cheapest.{Cheapest}

-- a whole number
abbrev pub whole : ℕ → Data
whole n = number (unsigned n)

-- a JSON array (RFC 8259, section 5)
abbrev pub list : List Data → Data
list ds = array (items_of ds)

-- The day of a line as it is written. It is empty if a line has no day, which doesn't happen in a
-- history.
abbrev pub day_text : Option (List ℕ) → List ℕ
day_text day = unwrap_or day []

-- a duty: its number, document and package, its term, rule and code, its state, and the day of its
-- last change
abbrev pub duty_row : DutyLine → Data
duty_row line = list (whole line.number ∷ whole line.document ∷ string line.package_id
    ∷ string line.term ∷ string line.rule ∷ string line.code
    ∷ string (duty_state_name line.state) ∷ string (day_text line.day) ∷ [])

-- the step, the day, the word and the text; for a waiver that ends, its last day too
abbrev pub change_values : ChangeRow → List Data
change_values row = whole row.step ∷ string row.day ∷ string (word_name row.word)
    ∷ string row.body ∷ []

-- the last day of a waiver that ends; other changes have no such value
abbrev pub ending : Option (List ℕ) → List Data
ending None = []
ending (Some day) = string day ∷ []

-- a change, its waiver's last day at the end if it has one
abbrev pub change_line : ChangeRow → Data
change_line row = list (change_values row ++ ending row.last_day)

-- how many duties were raised, and how many are open, met, waived and withdrawn
abbrev pub totals_row : Totals → Data
totals_row t = list (whole t.raised ∷ whole t.still_open ∷ whole t.met ∷ whole t.waived
    ∷ whole t.withdrawn ∷ [])

-- the release, its form and state, and the revision of the catalogue at its freeze
abbrev pub release_line : ReleaseRow → Data
release_line row = list (string row.name ∷ string row.form ∷ string (release_state_name row.state)
    ∷ whole row.revision ∷ [])

-- a release in the list of all: as above, and its duties counted by state
abbrev pub listed_release : ReleaseLine → Data
listed_release line = list (string line.release.name ∷ string line.release.form
    ∷ string (release_state_name line.release.state) ∷ whole line.release.revision
    ∷ whole line.totals.raised ∷ whole line.totals.still_open ∷ whole line.totals.met
    ∷ whole line.totals.waived ∷ whole line.totals.withdrawn ∷ [])

-- a document in the list of all: its number, namespace and profile, and how many packages it ships
abbrev pub listed_document : DocumentLine → Data
listed_document line = list (whole line.head.number ∷ string line.head.namespace
    ∷ whole (profile_number line.head.profile) ∷ whole line.shipped ∷ [])

-- an open duty in the list of all: its number, its release, what it is owed for, and the day of its
-- last change
abbrev pub open_row : OpenDuty → Data
open_row line = list (whole line.duty.number ∷ string line.duty.release ∷ whole line.duty.document
    ∷ string line.duty.package_id ∷ string line.duty.term
    ∷ string line.duty.rule ∷ string line.duty.code ∷ string (day_text line.day) ∷ [])

-- what is missing: the word for it, its document, and what lacks it
abbrev pub gap_row : Gap → Data
gap_row gap = list (string (gap_name gap.kind) ∷ whole gap.document ∷ string gap.subject ∷ [])

-- printed terms, in order
abbrev pub term_list : List (List ℕ) → Data
term_list terms = list (map string terms)

-- a package: an empty text if it has no conclusion
abbrev pub package_values : PackageLine → Data
package_values line = list (whole line.document ∷ string line.package_id ∷ string line.name
    ∷ string (unwrap_or line.conclusion []) ∷ term_list line.terms ∷ [])

-- a finding: its line, and the number and the name of its kind
abbrev pub finding_line : Finding → Data
finding_line f = list (whole f.line ∷ whole (kind_number f.kind) ∷ string (kind_name f.kind) ∷ [])

-- the cheapest set: its cost, and its terms
abbrev pub cheapest_row : Cheapest → Data
cheapest_row c = list (whole c.cost ∷ term_list c.terms ∷ [])

-- one row, or none if no set has a cost
abbrev pub cheapest_rows : Option Cheapest → List Data
cheapest_rows None = []
cheapest_rows (Some c) = cheapest_row c ∷ []
