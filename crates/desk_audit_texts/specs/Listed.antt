-- The parts of the conditions of documents for which no document is read, and what is required of
-- each document.
use Rattle.std.specs.Prelude.{◌≡◌, true, false, map, Option, Some, None}
use Rattle.std.specs.List.{list_all}
use Rattle.desk_model.specs.Readings.{Readings}
use Rattle.desk_model.specs.declared.reading.Document.{Document}
use Rattle.desk_snapshot.specs.Conditions.{document_in, is_profile, is_read}
use Rattle.desk_snapshot.specs.Rows.{AreFrom}
use Rattle.desk_snapshot.specs.declared.rows.StoredDocument.{StoredDocument}
use Rattle.desk_snapshot.specs.declared.snapshot.Snapshot.{Snapshot}

-- The documents are 1 to n, and each of them, and no other, has one profile.
pub record AreListed (s : Snapshot) : Type 0 where
  pub numbered : AreFrom 1 (map (λ row. row.number) s.document)
  pub profiled : map (λ row. row.document) s.reading ≡ map (λ row. row.number) s.document
  pub profiles : list_all is_profile s.reading ≡ true

-- the document of a row, which is read and has the row's namespace; none if that isn't so
abbrev pub IsReadAs : Readings → StoredDocument → Option Document → Type 0
IsReadAs w row None = is_read w row ≡ false
IsReadAs w row (Some document) = (is_read w row ≡ true) × (document_in w row ≡ Some document)
