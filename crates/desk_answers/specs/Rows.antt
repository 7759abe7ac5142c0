-- The names of the columns of each table of an answer, and the cells of a row.
use Rattle.std.specs.Prelude.{ℕ, List, [], ◌∷◌, ◌++◌, codes, decimal, unwrap_or}
use Rattle.desk_base.specs.Profiles.{profile_number}
use Rattle.desk_lists.specs.Cells.{totals_cells}
use Rattle.desk_model.specs.FindingKinds.{kind_name, kind_number}
use Rattle.desk_model.specs.Names.{release_state_name, word_name}
use Rattle.desk_model.specs.declared.command.DocumentLine.{DocumentLine}
use Rattle.desk_model.specs.declared.command.OpenDuty.{OpenDuty}
use Rattle.desk_model.specs.declared.command.PackageLine.{PackageLine}
use Rattle.desk_model.specs.declared.command.ReleaseLine.{ReleaseLine}
use Rattle.desk_model.specs.Gaps.{gap_name}
use Rattle.desk_model.specs.declared.finding.Finding.{Finding}
use Rattle.desk_model.specs.declared.gap.Gap.{Gap}
use Rattle.desk_model.specs.declared.reading.Cheapest.{Cheapest}
use Rattle.desk_model.specs.declared.row.ChangeRow.{ChangeRow}
use Rattle.desk_model.specs.declared.row.ReleaseRow.{ReleaseRow}
use Rattle.desk_answers.specs.Sets.{joined}

-- ---- commands

-- a revision of the catalogue
abbrev pub revision_names : List (List ℕ)
revision_names = codes "revision" ∷ []

-- a document, and whether it is new: `yes` or `no`
abbrev pub document_names : List (List ℕ)
document_names = codes "document" ∷ codes "new" ∷ []

-- the first duty that a freeze raised, and how many there are
abbrev pub frozen_names : List (List ℕ)
frozen_names = codes "first" ∷ codes "count" ∷ []

-- how many waivers ended
abbrev pub closed_names : List (List ℕ)
closed_names = codes "closed" ∷ []

-- ---- questions

-- how many duties there are, and how many in each state
abbrev pub totals_names : List (List ℕ)
totals_names = codes "raised" ∷ codes "open" ∷ codes "met" ∷ codes "waived" ∷ codes "withdrawn" ∷ []

-- a change of a duty
abbrev pub change_names : List (List ℕ)
change_names = codes "step" ∷ codes "day" ∷ codes "word" ∷ codes "until" ∷ codes "text" ∷ []

-- the cells of a change
abbrev pub change_cells : ChangeRow → List (List ℕ)
change_cells row = decimal row.step ∷ row.day ∷ word_name row.word ∷ unwrap_or row.last_day []
    ∷ row.body ∷ []

-- a finding of a document
abbrev pub finding_names : List (List ℕ)
finding_names = codes "line" ∷ codes "kind" ∷ codes "name" ∷ []

-- the cells of a finding
abbrev pub finding_cells : Finding → List (List ℕ)
finding_cells found = decimal found.line ∷ decimal (kind_number found.kind) ∷ kind_name found.kind
    ∷ []

-- a release
abbrev pub release_names : List (List ℕ)
release_names = codes "name" ∷ codes "form" ∷ codes "state" ∷ codes "revision" ∷ []

-- the cells of a release
abbrev pub release_cells : ReleaseRow → List (List ℕ)
release_cells row = row.name ∷ row.form ∷ release_state_name row.state ∷ decimal row.revision ∷ []

-- a package that a release ships
abbrev pub package_names : List (List ℕ)
package_names = codes "document" ∷ codes "package" ∷ codes "name" ∷ codes "conclusion"
    ∷ codes "terms" ∷ []

-- the cells of a package
abbrev pub package_cells : PackageLine → List (List ℕ)
package_cells line = decimal line.document ∷ line.package_id ∷ line.name
    ∷ unwrap_or line.conclusion [] ∷ joined line.terms ∷ []

-- the cheapest set
abbrev pub cheapest_names : List (List ℕ)
cheapest_names = codes "duties" ∷ codes "terms" ∷ []

-- the cells of a set
abbrev pub cheapest_cells : Cheapest → List (List ℕ)
cheapest_cells found = decimal found.cost ∷ joined found.terms ∷ []

-- the cells of a release with its duties counted, in the columns of a release and of counts
abbrev pub counted_cells : ReleaseLine → List (List ℕ)
counted_cells line = release_cells line.release ++ totals_cells line.totals

-- a document of the desk
abbrev pub held_names : List (List ℕ)
held_names = codes "number" ∷ codes "namespace" ∷ codes "profile" ∷ codes "shipped" ∷ []

-- the cells of a document of the desk
abbrev pub held_cells : DocumentLine → List (List ℕ)
held_cells line = decimal line.head.number ∷ line.head.namespace
    ∷ decimal (profile_number line.head.profile) ∷ decimal line.shipped ∷ []

-- an open duty
abbrev pub open_names : List (List ℕ)
open_names = codes "number" ∷ codes "release" ∷ codes "document" ∷ codes "package" ∷ codes "term"
    ∷ codes "rule" ∷ codes "code" ∷ codes "since" ∷ []

-- the cells of an open duty
abbrev pub open_cells : OpenDuty → List (List ℕ)
open_cells line = decimal line.duty.number ∷ line.duty.release ∷ decimal line.duty.document
    ∷ line.duty.package_id ∷ line.duty.term ∷ line.duty.rule ∷ line.duty.code
    ∷ unwrap_or line.day [] ∷ []

-- what is missing for the notices of a release
abbrev pub gap_names : List (List ℕ)
gap_names = codes "missing" ∷ codes "document" ∷ codes "subject" ∷ []

-- the cells of a gap
abbrev pub gap_cells : Gap → List (List ℕ)
gap_cells gap = gap_name gap.kind ∷ decimal gap.document ∷ gap.subject ∷ []

-- what keeps a release from being frozen
abbrev pub wanting_names : List (List ℕ)
wanting_names = codes "number" ∷ codes "name" ∷ codes "words" ∷ []
