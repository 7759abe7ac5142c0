-- What a store keeps beside the rows of a desk's tables, and when a snapshot of them gives it.
use Rattle.std.specs.Prelude.{◌≡◌, ◌<◌, ◌^◌, ℕ, ℤ, pos, int_le, Bool, true, List, length, map, find}
use Rattle.std.specs.Prelude.{Option, IfSome, is_some}
use Rattle.std.specs.List.{AllByRecursion, list_all}
use Rattle.std.specs.Option.{option_map, option_and_then}
use Rattle.std.specs.Result.{result_ok}
use Rattle.desk_model.specs.History.{forms_in}
use Rattle.desk_model.specs.Keys.{is_revision}
use Rattle.desk_model.specs.Readings.{Readings}
use Rattle.desk_model.specs.Tables.{Tables}
use Rattle.desk_model.specs.declared.row.DutyRow.{DutyRow}
use Rattle.desk_model.specs.declared.row.ReleaseRow.{ReleaseRow}
use Rattle.desk_snapshot.specs.Tables.{catalogue_stored, document_stored, duty_stored, release_stored}
use Rattle.desk_snapshot.specs.declared.fault.AuditReport.{AuditReport}
use Rattle.desk_snapshot.specs.declared.fault.AuditReport.TheVariants as report
use Rattle.desk_snapshot.specs.declared.snapshot.Snapshot.{Snapshot}
use Rattle.desk_tally.specs.Kept.{AreKept, are_countable}
use Rattle.desk_texts.specs.Right.{AreRight}
use Rattle.desk_beside.specs.declared.beside.Audited.{Audited}
use Rattle.desk_beside.specs.declared.beside.Audited.TheVariants.{Sound, Unsound}
use Rattle.desk_beside.specs.declared.beside.Beside.{Beside}
use Rattle.desk_beside.specs.declared.counts.Counts.{Counts}

-- ---- what is kept

-- the body of the revision with a number, if there is one
abbrev pub body_of : Tables → ℕ → Option (List ℕ)
body_of t n = option_map (λ row. row.body) (find (is_revision n) t.catalogue)

-- these tables have this many rows
pub record HasCounts (counts : Counts) (t : Tables) : Type 0 where
  pub revisions : length t.catalogue ≡ counts.revisions
  pub documents : length t.document ≡ counts.documents
  pub releases : length t.releases ≡ counts.releases
  pub duties : length t.duty ≡ counts.duties

-- the forms that a reading gives the catalogue in force
abbrev pub forms_by : Readings → Tables → ℕ → List (List ℕ)
forms_by w t n = forms_in (option_and_then (λ text. result_ok (w.catalogue text)) (body_of t n))

-- what is kept beside these tables: their counts, the forms of the last revision, and the tallies
pub record IsBeside (kept : Beside) (t : Tables) : Type 0 where
  pub counts : HasCounts kept.counts t
  pub forms : (w : Readings) → AreRight w → kept.forms ≡ forms_by w t kept.counts.revisions
  pub tallies : AreKept kept.tallies t

-- ---- what a snapshot has of tables

-- the revisions, documents, releases and duties of the snapshot are those of the tables
pub record ShowsTables (s : Snapshot) (t : Tables) : Type 0 where
  pub catalogue : s.catalogue ≡ map catalogue_stored t.catalogue
  pub document : s.document ≡ map document_stored t.document
  pub releases : s.releases ≡ map release_stored t.releases
  pub duty : s.duty ≡ map duty_stored t.duty

-- a number that isn't below 0
abbrev pub is_natural : ℤ → Bool
is_natural = int_le (pos 0)

-- Where the ten conditions admit any number, none is below 0.
pub record HasNumbers (s : Snapshot) : Type 0 where
  pub conclusions : list_all (λ row. is_natural row.document) s.conclusion ≡ true
  pub adoptions : list_all (λ row. is_natural row.document) s.adoption ≡ true
  pub revisions : list_all (λ row. is_natural row.revision) s.releases ≡ true
  pub attached : list_all (λ row. is_natural row.document) s.attached ≡ true
  pub frozen : list_all (λ row. is_natural row.document) s.frozen ≡ true

-- ---- what an audit finds

-- what it reports
abbrev pub report_of : Audited → AuditReport
report_of (Sound kept) = report.Sound
report_of (Unsound fault) = report.Unsound fault

-- of sound rows without a number below 0, what is kept beside whatever tables have them
abbrev pub IsAudited : Snapshot → Audited → Type 0
IsAudited s (Sound kept) = HasNumbers s × ((t : Tables) → ShowsTables s t → IsBeside kept t)
IsAudited s (Unsound fault) = Unit {0}

-- ---- when it can be kept

-- the numbers of these rows are of 32 bits
pub record AreFew (s : Snapshot) : Type 0 where
  pub revisions : length s.catalogue < 2 ^ 32
  pub documents : length s.document < 2 ^ 32
  pub releases : length s.releases < 2 ^ 32
  pub duties : length s.duty < 2 ^ 32

-- its place in the order of opening is of 32 bits
abbrev pub IsSmallRelease : ReleaseRow → Type 0
IsSmallRelease row = row.place < 2 ^ 32

-- its own number and that of its document are of 32 bits
abbrev pub IsSmallDuty : DutyRow → Type 0
IsSmallDuty row = (row.number < 2 ^ 32) × (row.document < 2 ^ 32)

-- The numbers in the tables are of 32 bits, their duties can be counted, and the last revision is a
-- catalogue.
pub record CanKeep (w : Readings) (t : Tables) : Type 0 where
  pub releases : AllByRecursion IsSmallRelease t.releases
  pub duties : AllByRecursion IsSmallDuty t.duty
  pub countable : are_countable t.releases t.duty ≡ true
  pub catalogue : IfSome (body_of t (length t.catalogue))
      (λ text. is_some (result_ok (w.catalogue text)) ≡ true)
