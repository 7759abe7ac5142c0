-- What is proposed for a document that a desk holds: its declared licences as conclusions, and the
-- choices for packages that have only one.
use Rattle.std.specs.Prelude.{◌⊎◌, ◌==◌, ◌&&◌, ℕ, ℤ, pos, Bool, List, [], Option, Some, Result, Ok}
use Rattle.std.specs.Prelude.{is_some, filter, find, map}
use Rattle.std.specs.Option.{option_map_or}
use Rattle.std.specs.Ordering.{int_eq}
use Rattle.std.specs.Result.{result_unwrap_or}
use Rattle.std.specs.Str.{bytes_eq}
use Rattle.desk_expr.specs.Tree.{Tree}
use Rattle.desk_model.specs.Names.{release_state_name}
use Rattle.desk_model.specs.Readings.{Readings}
use Rattle.desk_model.specs.declared.refusal.Refusal.{Refusal}
use Rattle.desk_model.specs.declared.state.ReleaseState.TheVariants as release
use Rattle.desk_wanting.specs.Requests.{choice_lines_text}
use Rattle.desk_wanting.specs.declared.sole_choice.SoleChoice.{SoleChoice}
use Rattle.desk_snapshot.specs.Rows.{is_attachment, is_conclusion}
use Rattle.desk_snapshot.specs.declared.rows.StoredDocument.{StoredDocument}
use Rattle.desk_snapshot.specs.declared.rows.StoredRelease.{StoredRelease}
use Rattle.desk_snapshot.specs.declared.snapshot.Snapshot.{Snapshot}
use Rattle.desk_views.specs.Proposals.{HasLines, IsRefused}
use Rattle.desk_tagvalue.specs.Documents.{Spells}
use Rattle.desk_tagvalue.specs.Parts.{DocumentText, PackageText}

-- the row of the document with this number
abbrev pub is_document : ℕ → StoredDocument → Bool
is_document number row = int_eq row.number (pos number)

-- a package with the office's conclusion in place of its own, if there is one
abbrev pub with_conclusion : Snapshot → ℤ → PackageText → PackageText
with_conclusion s document p =
    option_map_or (λ row. record p { concluded = Some row.expression })
    (find (is_conclusion document p.id) s.conclusion) p

-- a document with the office's conclusions
abbrev pub document_held : Snapshot → ℤ → DocumentText → DocumentText
document_held s document d = record d { packages = map (with_conclusion s document) d.packages }

-- the text and the status for the proposals for the document that bytes spell, as the desk
-- concluded it, or for bytes that spell none
abbrev pub ProposesHeld : Readings → (List ℕ → Option Tree) → Snapshot → ℕ → List ℕ → List ℕ → ℕ
    → Type 0
ProposesHeld w reads s number bytes text status =
    ((d : DocumentText) × Spells bytes (Ok d)
    × HasLines reads number (document_held s (pos number) d) text status)
    ⊎ IsRefused w bytes text status

-- an open release to which a document is attached
abbrev pub is_open_with : Snapshot → ℤ → StoredRelease → Bool
is_open_with s document row =
    bytes_eq row.state (release_state_name release.IsOpen)
    && is_some (find (is_attachment row.name document) s.attached)

-- the names of these releases, in the order of the table
abbrev pub open_releases_with : Snapshot → ℤ → List (List ℕ)
open_releases_with s document = map (λ row. row.name) (filter (is_open_with s document) s.releases)

-- a choice for a package of a document
abbrev pub is_choice_for : ℕ → SoleChoice → Bool
is_choice_for document choice = choice.document == document

-- the requests for the choices that were found for packages of a release, as far as they are for
-- packages of a document; none if they are refused
abbrev pub choice_lines_for : ℕ → List ℕ → Result (List SoleChoice) Refusal → List ℕ
choice_lines_for document release found =
    choice_lines_text release (filter (is_choice_for document) (result_unwrap_or found []))
