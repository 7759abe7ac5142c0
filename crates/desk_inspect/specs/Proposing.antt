-- What is proposed for a document of a desk and the program's status, for each recorded history
-- whose tables are the desk's rows.
use Rattle.std.specs.Prelude.{◌≡◌, ◌⊎◌, ◌++◌, ℕ, pos, List, Option, Some, None, find}
use Rattle.std.specs.Io.KnownBytes.{Appends}
use Rattle.std.specs.List.{flat_map}
use Rattle.desk_expr.specs.Tree.{Tree}
use Rattle.desk_findings.specs.Fields.{IsReading}
use Rattle.desk_model.specs.Readings.{Readings}
use Rattle.desk_model.specs.Tables.{Tables, tables}
use Rattle.desk_model.specs.declared.command.Answer.TheVariants.{Refused}
use Rattle.desk_model.specs.declared.command.Outcome.TheVariants.{Answered}
use Rattle.desk_model.specs.declared.refusal.Refusal.TheVariants.{UnknownDocument}
use Rattle.desk_access.specs.Seen.{Seen}
use Rattle.desk_core.specs.Desks.{InHistory}
use Rattle.desk_snapshot.specs.Conditions.{profile_at}
use Rattle.desk_snapshot.specs.Tables.{snapshot_of}
use Rattle.desk_snapshot.specs.declared.rows.StoredDocument.{StoredDocument}
use Rattle.desk_snapshot.specs.declared.snapshot.Snapshot.{Snapshot}
use Rattle.desk_subcommands.specs.Filing.{outcome_line}
use Rattle.desk_views.specs.Proposals.{IsRefused}
use Rattle.desk_views.specs.Proposing.{ProposesHeld, choice_lines_for, is_document, open_releases_with}
use Rattle.desk_wanting.specs.Sole.{sole_choices_found}

-- the requests for the sole choices of releases, as far as they are for packages of a document
abbrev pub choice_lines_in : Readings → Tables → ℕ → List (List ℕ) → List ℕ
choice_lines_in w t document releases =
    flat_map (λ release. choice_lines_for document release (sole_choices_found w t release)) releases

-- the conclusions that are proposed for a document with these bytes, and then these requests; or
-- the reply to bytes that are no document
abbrev pub ProposesBoth : Readings → (List ℕ → Option Tree) → Snapshot → ℕ → List ℕ → List ℕ
    → List ℕ → ℕ → Type 0
ProposesBoth w reads s number bytes choices text status =
    ((conclusions : List ℕ) × ProposesHeld w reads s number bytes conclusions 0
    × (text ≡ conclusions ++ choices) × (status ≡ 0))
    ⊎ IsRefused w bytes text status

-- the same of a document's row, if there is one; or the reply that the document is unknown
abbrev pub ProposesRow : Readings → (List ℕ → Option Tree) → Snapshot → ℕ → List ℕ
    → Option StoredDocument → List ℕ → ℕ → Type 0
ProposesRow w reads s number choices (Some row) text status =
    ProposesBoth w reads s number row.bytes choices text status
ProposesRow w reads s number choices None text status =
    (text ≡ outcome_line (Answered (Refused UnknownDocument))) × (status ≡ 1)

-- the same of the document with this number in a snapshot of tables, with the sole choices of the
-- open releases to which it is attached
abbrev pub ProposesIn : Readings → (List ℕ → Option Tree) → Snapshot → Tables → ℕ → List ℕ → ℕ
    → Type 0
ProposesIn w reads s t number text status =
    ProposesRow w reads s number (choice_lines_in w t number (open_releases_with s (pos number)))
    (find (is_document number) s.document) text status

-- this is written, by each reading of licence expressions by the document's profile
abbrev pub Proposes : Readings → Snapshot → Tables → ℕ → Option (List ℕ) → Option (List ℕ) → ℕ
    → Type 0
Proposes w s t number old new status = (reads : List ℕ → Option Tree)
    → IsReading (profile_at s (pos number)) reads
    → (text : List ℕ) × ProposesIn w reads s t number text status × Appends old new text

-- what is proposed for a document of the desk
abbrev pub TellsProposals : {Left : Type 0} → (Readings → Type 0) → ℕ → Seen Left → Seen Left
    → Option (List ℕ) → Option (List ℕ) → ℕ → Type 0
TellsProposals is_right number before after old new status = InHistory is_right
    (λ w h. Proposes w (snapshot_of (tables w h)) (tables w h) number old new status) before after
