-- What is shown of the texts of catalogues and references.
use Rattle.std.proofs.Common.{ℕ, List, [], ◌∷◌, filter, codes, refl}
use Rattle.sqlite_value.specs.declared.value.Value.TheVariants.{Text}
use Rattle.sqlite_sql.specs.Term.{col}
use Rattle.sqlite_tied.specs.Compute.{everything}
use Rattle.desk_sql_layout.specs.Shown.{extracted_body_cells, text_cells}
use Rattle.desk_model.specs.Keys.{is_extracted, is_revision}
use Rattle.desk_model.specs.declared.row.CatalogueRow.{CatalogueRow}
use Rattle.desk_sql_layout.specs.Cells.{number}
use Rattle.desk_sql_layout.proofs.Casts.{same}
use Rattle.desk_sql_layout.proofs.Finding.{FindsRows, finds_one}
use Rattle.desk_sql_layout.proofs.Selecting.{IsSelect}
use Rattle.desk_sql_layout.proofs.Selects.{order_by}
use Rattle.desk_sql_layout.proofs.Tests.{equals, last_text_test, number_key, number_test, number_text_key, number_then}
use Rattle.desk_sql_layout.proofs.Views.{catalogue_apart, catalogue_view, extracted_apart, extracted_view}

-- ---- the text of a revision of the catalogue

abbrev pub catalogue_text : List ℕ
catalogue_text = codes "SELECT body FROM catalogue WHERE revision = ?1 ORDER BY revision"

catalogue_is : IsSelect catalogue_text 1 1 (same 0 0 ∷ []) (col 1 2 ∷ []) (order_by (0 ∷ []))
    (codes "body" ∷ [])
unfolding everything
catalogue_is = record {
  from = λ at not_null. (refl, refl, refl);
  is = λ at not_null. record { is = refl; plain = (refl, refl); suits = (refl, refl) };
}

pub catalogue_finds : (n : ℕ) → FindsRows catalogue_text (number n ∷ [])
    (λ (x : CatalogueRow). text_cells x.body) (λ t. filter (is_revision n) t.catalogue)
catalogue_finds n =
    finds_one catalogue_view (0 ∷ []) catalogue_is (number n ∷ []) refl refl
    (equals ((0, number n) ∷ []))
    (0 ∷ []) (1 ∷ []) (λ r. refl) (λ r. refl) (is_revision n) (λ x. number_test x.revision n)
    catalogue_apart (number n ∷ []) (λ x. number_key x.revision n)

-- ---- the text that a document gives for a reference

abbrev pub extracted_text : List ℕ
extracted_text = codes
    "SELECT body FROM extracted WHERE document = ?1 AND reference = ?2 ORDER BY document, reference"

extracted_is : IsSelect extracted_text 2 8 (same 1 0 ∷ same 2 1 ∷ []) (col 1 3 ∷ [])
    (order_by (1 ∷ 2 ∷ []))
    (codes "body" ∷ [])
unfolding everything
extracted_is = record {
  from = λ at not_null. (refl, refl, refl);
  is = λ at not_null. record { is = refl; plain = (refl, refl); suits = (refl, refl) };
}

pub extracted_finds : (document : ℕ) (reference : List ℕ)
    → FindsRows extracted_text (number document ∷ Text reference ∷ [])
    extracted_body_cells (λ t. filter (is_extracted document reference) t.extracted)
extracted_finds document reference =
    finds_one extracted_view (1 ∷ 2 ∷ []) extracted_is (number document ∷ Text reference ∷ []) refl
    refl (equals ((0, number document) ∷ (1, Text reference) ∷ []))
    (0 ∷ 1 ∷ []) (2 ∷ []) (λ r. refl) (λ r. refl) (is_extracted document reference)
    (λ x. number_then x.document document (last_text_test x.reference reference))
    extracted_apart (number document ∷ Text reference ∷ [])
    (λ x. number_text_key x.document document x.reference reference)
