-- The lists of what a desk holds and the program's status, for each recorded history whose tables
-- are the desk's rows.
use Rattle.std.specs.Prelude.{◌≡◌, ℕ, Bool, List, MatchBool, Option}
use Rattle.std.specs.Io.KnownBytes.{Appends, Keeps}
use Rattle.desk_base.specs.declared.profile.Profile.{Profile}
use Rattle.desk_expr.specs.Tree.{Tree}
use Rattle.desk_model.specs.Readings.{Readings}
use Rattle.desk_model.specs.Tables.{tables}
use Rattle.desk_model.specs.declared.command.Answer.TheVariants.{Refused}
use Rattle.desk_model.specs.declared.command.Outcome.TheVariants.{Answered}
use Rattle.desk_model.specs.declared.refusal.Refusal.TheVariants.{UnknownRelease}
use Rattle.desk_access.specs.Seen.{Seen}
use Rattle.desk_core.specs.Desks.{InHistory}
use Rattle.desk_lists.specs.Cells.{document_table, duty_table, release_table}
use Rattle.desk_lists.specs.Documents.{AreReadings}
use Rattle.desk_lists.specs.Known.{names_unknown_code, names_unknown_release}
use Rattle.desk_lists.specs.declared.lines.DocumentLine.{DocumentLine}
use Rattle.desk_lists.specs.declared.lines.DutyFilter.{DutyFilter}
use Rattle.desk_lists.specs.declared.lines.DutyLine.{DutyLine}
use Rattle.desk_lists.specs.declared.lines.ReleaseLine.{ReleaseLine}
use Rattle.desk_snapshot.specs.Tables.{snapshot_of}
use Rattle.desk_snapshot.specs.declared.snapshot.Snapshot.{Snapshot}
use Rattle.desk_subcommands.specs.Filing.{outcome_line}
use Rattle.desk_views.specs.Listing.{AreDocuments, AreDuties, AreReleases, table_text}

-- The duties of these rows that a filter asks for. If it names a release that there is none of, the
-- reply is the refusal that says so; if it names a code that no duty has, nothing is written.
abbrev pub ListsDuties : DutyFilter → Bool → Snapshot → Option (List ℕ) → Option (List ℕ) → ℕ
    → Type 0
ListsDuties wanted in_columns s old new status =
    MatchBool (names_unknown_release s wanted)
    (Appends old new (outcome_line (Answered (Refused UnknownRelease))) × (status ≡ 1))
    (MatchBool (names_unknown_code s wanted) (Keeps old new × (status ≡ 1))
    ((lines : List DutyLine) × AreDuties wanted s lines
    × Appends old new (table_text in_columns (duty_table lines)) × (status ≡ 0)))

module _ {Left : Type 0} (is_right : Readings → Type 0) where
  -- the releases, in columns or as comma-separated values
  abbrev pub TellsReleases : Bool → Seen Left → Seen Left → Option (List ℕ) → Option (List ℕ) → ℕ
      → Type 0
  TellsReleases in_columns before after old new status = (lines : List ReleaseLine)
      × InHistory is_right (λ w h. AreReleases (snapshot_of (tables w h)) lines) before after
      × Appends old new (table_text in_columns (release_table lines)) × (status ≡ 0)

  -- the documents, by each reading of licence expressions
  abbrev pub TellsDocuments : Bool → Seen Left → Seen Left → Option (List ℕ) → Option (List ℕ) → ℕ
      → Type 0
  TellsDocuments in_columns before after old new status =
      (reads : Profile → List ℕ → Option Tree) → AreReadings reads → (lines : List DocumentLine)
      × InHistory is_right (λ w h. AreDocuments reads (snapshot_of (tables w h)) lines) before after
      × Appends old new (table_text in_columns (document_table lines)) × (status ≡ 0)

  -- the duties that a filter asks for, or that it can't be asked for
  abbrev pub TellsDuties : DutyFilter → Bool → Seen Left → Seen Left → Option (List ℕ)
      → Option (List ℕ) → ℕ → Type 0
  TellsDuties wanted in_columns before after old new status = InHistory is_right
      (λ w h. ListsDuties wanted in_columns (snapshot_of (tables w h)) old new status) before after
