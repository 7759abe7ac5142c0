-- A list of rows that are those of the desk.
use Rattle.std.proofs.Common.{◌≡◌, ℕ, Bool, List, Option, subst}
use Rattle.std.specs.Prelude.{Result, Ok, Err, IfOk}
use Rattle.std.specs.Io.KnownBytes.{Appends}
use Rattle.desk_base.specs.declared.profile.Profile.{Profile}
use Rattle.desk_expr.specs.Tree.{Tree}
use Rattle.desk_model.specs.Readings.{Readings}
use Rattle.desk_model.specs.Tables.{tables}
use Rattle.desk_access.specs.Seen.{Same, Seen}
use Rattle.desk_core.specs.Desks.{InHistory}
use Rattle.desk_lists.specs.Cells.{document_table}
use Rattle.desk_lists.specs.Documents.{AreReadings}
use Rattle.desk_lists.specs.declared.lines.DocumentLine.{DocumentLine}
use Rattle.desk_snapshot.specs.Tables.{snapshot_of}
use Rattle.desk_snapshot.specs.declared.snapshot.Snapshot.{Snapshot}
use Rattle.desk_subcommands.specs.declared.failure.Failure.{Failure}
use Rattle.desk_views.specs.Listing.{AreDocuments, table_text}
use Rattle.desk_inspect.specs.Listing.{TellsDocuments}

module _ {Left : Type 0} (is_right : Readings → Type 0) (before after : Seen Left)
    (same : Same before after) (s : Snapshot)
    (held : InHistory is_right (λ w h. s ≡ snapshot_of (tables w h)) before after) where
  -- what is true of the rows is true of those of the history
  pub of_history : (Is : Snapshot → Type 0) → Is s
      → InHistory is_right (λ w h. Is (snapshot_of (tables w h))) before after
  of_history Is is w right honest h ok holds = subst Is (held w right honest h ok holds) is

  -- the list of documents, by each reading of expressions
  pub documents_told : (in_columns : Bool) (old new : Option (List ℕ)) (result : Result ℕ Failure)
      → ((reads : Profile → List ℕ → Option Tree) → AreReadings reads
      → IfOk result (λ status. (status ≡ 0) × (lines : List DocumentLine)
      × AreDocuments reads s lines
      × Appends old new (table_text in_columns (document_table lines))))
      → IfOk result (TellsDocuments is_right in_columns before after old new)
  documents_told in_columns old new (Ok status) told = λ reads are.
      let it = told reads are in
      (it.1, of_history (λ s. AreDocuments reads s it.1) it.2, it.3, it.0)
  documents_told in_columns old new (Err why) told = tt
