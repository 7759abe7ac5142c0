-- What is shown of documents and their packages.
use Rattle.std.proofs.Common.{◌≡◌, ◌∙◌, ℕ, Bool, true, false, List, [], ◌∷◌, filter, codes, refl}
use Rattle.std.specs.Prelude.{◌==◌, if◌then◌else◌}
use Rattle.sqlite_value.specs.declared.value.Value.TheVariants.{Text}
use Rattle.sqlite_sql.specs.Term.{col}
use Rattle.sqlite_tied.specs.Compute.{everything}
use Rattle.desk_sql_layout.specs.Shown.{bytes_cells, import_cells, name_cells}
use Rattle.desk_model.specs.Keys.{is_document, has_namespace, is_package, is_shipped_by}
use Rattle.desk_model.specs.declared.row.DocumentRow.{DocumentRow}
use Rattle.desk_sql_layout.specs.Cells.{number, package_cells, reading_cells}
use Rattle.desk_sql_layout.proofs.Casts.{same}
use Rattle.desk_sql_layout.proofs.Finding.{FindsRows, finds_all, finds_every, finds_one}
use Rattle.desk_sql_layout.proofs.Keyed.{documents_sorted, packages_sorted}
use Rattle.desk_sql_layout.proofs.Selecting.{IsSelect}
use Rattle.desk_sql_layout.proofs.Selects.{order_by}
use Rattle.desk_sql_layout.proofs.Tests.{
  equals,
  last_text_test,
  number_key,
  number_test,
  number_text_key,
  number_then,
  text_key,
}
use Rattle.desk_sql_layout.proofs.Views.{
  document_apart,
  document_view,
  namespace_apart,
  package_apart,
  package_view,
  reading_apart,
  reading_view,
}

-- ---- the profile of a document

abbrev pub document_text : List ℕ
document_text = codes "SELECT document, profile FROM reading WHERE document = ?1 ORDER BY document"

document_is : IsSelect document_text 1 27 (same 0 0 ∷ []) (col 1 0 ∷ col 1 2 ∷ [])
    (order_by (0 ∷ []))
    (codes "document" ∷ codes "profile" ∷ [])
unfolding everything
document_is = record {
  from = λ at not_null. (refl, refl, refl);
  is = λ at not_null. record { is = refl; plain = (refl, refl); suits = (refl, refl) };
}

pub document_finds : (n : ℕ) → FindsRows document_text (number n ∷ [])
    reading_cells (λ t. filter (is_document n) t.document)
document_finds n =
    finds_one reading_view (0 ∷ []) document_is (number n ∷ []) refl refl
    (equals ((0, number n) ∷ []))
    (0 ∷ []) (0 ∷ 1 ∷ []) (λ r. refl) (λ r. refl) (is_document n) (λ x. number_test x.number n)
    reading_apart (number n ∷ []) (λ x. number_key x.number n)

-- ---- the bytes of a document

abbrev pub document_bytes_text : List ℕ
document_bytes_text = codes "SELECT bytes FROM document WHERE number = ?1 ORDER BY number"

document_bytes_is : IsSelect document_bytes_text 1 4 (same 0 0 ∷ []) (col 1 3 ∷ [])
    (order_by (0 ∷ []))
    (codes "bytes" ∷ [])
unfolding everything
document_bytes_is = record {
  from = λ at not_null. (refl, refl, refl);
  is = λ at not_null. record { is = refl; plain = (refl, refl); suits = (refl, refl) };
}

pub document_bytes_finds : (n : ℕ) → FindsRows document_bytes_text (number n ∷ [])
    (λ (x : DocumentRow). bytes_cells x.bytes) (λ t. filter (is_document n) t.document)
document_bytes_finds n =
    finds_one document_view (0 ∷ []) document_bytes_is (number n ∷ []) refl refl
    (equals ((0, number n) ∷ []))
    (0 ∷ []) (2 ∷ []) (λ r. refl) (λ r. refl) (is_document n) (λ x. number_test x.number n)
    document_apart (number n ∷ []) (λ x. number_key x.number n)

-- ---- the document with a namespace

abbrev pub import_of_text : List ℕ
import_of_text = codes "SELECT number, bytes FROM document WHERE namespace = ?1 ORDER BY namespace"

import_of_is : IsSelect import_of_text 1 4 (same 2 0 ∷ []) (col 1 0 ∷ col 1 3 ∷ [])
    (order_by (2 ∷ []))
    (codes "number" ∷ codes "bytes" ∷ [])
unfolding everything
import_of_is = record {
  from = λ at not_null. (refl, refl, refl);
  is = λ at not_null. record { is = refl; plain = (refl, refl); suits = (refl, refl) };
}

pub import_of_finds : (namespace : List ℕ) → FindsRows import_of_text (Text namespace ∷ [])
    import_cells (λ t. filter (has_namespace namespace) t.document)
import_of_finds namespace =
    finds_one document_view (2 ∷ []) import_of_is (Text namespace ∷ []) refl refl
    (equals ((1, Text namespace) ∷ []))
    (1 ∷ []) (0 ∷ 2 ∷ []) (λ r. refl) (λ r. refl) (has_namespace namespace)
    (λ x. last_text_test x.namespace namespace)
    namespace_apart (Text namespace ∷ []) (λ x. text_key x.namespace namespace)

-- ---- a package of a document

abbrev pub package_text : List ℕ
package_text = codes
    "SELECT document, id, name, version, concluded, copyright, shipped FROM package WHERE document = ?1 AND id = ?2 ORDER BY document, id"

package_is : IsSelect package_text 2 6 (same 1 0 ∷ same 2 1 ∷ [])
    (col 1 1 ∷ col 1 2 ∷ col 1 3 ∷ col 1 4 ∷ col 1 5 ∷ col 1 6 ∷ col 1 7 ∷ [])
    (order_by (1 ∷ 2 ∷ []))
    (codes "document" ∷ codes "id" ∷ codes "name" ∷
    codes "version" ∷ codes "concluded" ∷ codes "copyright" ∷ codes "shipped" ∷ [])
unfolding everything
package_is = record {
  from = λ at not_null. (refl, refl, refl);
  is = λ at not_null. record { is = refl; plain = (refl, refl); suits = (refl, refl) };
}

pub package_finds : (document : ℕ) (id : List ℕ)
    → FindsRows package_text (number document ∷ Text id ∷ [])
    package_cells (λ t. filter (is_package document id) t.packages)
package_finds document id =
    finds_one package_view (1 ∷ 2 ∷ []) package_is (number document ∷ Text id ∷ []) refl refl
    (equals ((0, number document) ∷ (1, Text id) ∷ []))
    (0 ∷ 1 ∷ []) (0 ∷ 1 ∷ 2 ∷ 3 ∷ 4 ∷ 5 ∷ 6 ∷ []) (λ r. refl) (λ r. refl) (is_package document id)
    (λ x. number_then x.document document (last_text_test x.id id))
    package_apart (number document ∷ Text id ∷ [])
    (λ x. number_text_key x.document document x.id id)

-- ---- the packages that a document ships

abbrev pub shipped_text : List ℕ
shipped_text = codes
    "SELECT document, id, name, version, concluded, copyright, shipped FROM package WHERE document = ?1 AND shipped = ?2 ORDER BY document, id"

shipped_is : IsSelect shipped_text 2 6 (same 1 0 ∷ same 7 1 ∷ [])
    (col 1 1 ∷ col 1 2 ∷ col 1 3 ∷ col 1 4 ∷ col 1 5 ∷ col 1 6 ∷ col 1 7 ∷ [])
    (order_by (1 ∷ 2 ∷ []))
    (codes "document" ∷ codes "id" ∷ codes "name" ∷
    codes "version" ∷ codes "concluded" ∷ codes "copyright" ∷ codes "shipped" ∷ [])
unfolding everything
shipped_is = record {
  from = λ at not_null. (refl, refl, refl);
  is = λ at not_null. record { is = refl; plain = (refl, refl); suits = (refl, refl) };
}

shipped_flag : (b : Bool) → ((if b then 1 else 0) == 1) ≡ b
shipped_flag true = refl
shipped_flag false = refl

pub shipped_finds : (document : ℕ) → FindsRows shipped_text (number document ∷ number 1 ∷ [])
    package_cells (λ t. filter (is_shipped_by document) t.packages)
shipped_finds document =
    finds_all package_view (1 ∷ 2 ∷ []) shipped_is (number document ∷ number 1 ∷ []) refl refl
    (equals ((0, number document) ∷ (6, number 1) ∷ []))
    (0 ∷ 1 ∷ []) (0 ∷ 1 ∷ 2 ∷ 3 ∷ 4 ∷ 5 ∷ 6 ∷ []) (λ r. refl) (λ r. refl) (is_shipped_by document)
    (λ x. number_then x.document document
    (number_test (if x.shipped then 1 else 0) 1 ∙ shipped_flag x.shipped))
    package_apart (λ t orderly. packages_sorted t.packages orderly.packages)

-- ---- all documents, without their bytes

abbrev pub names_text : List ℕ
names_text = codes "SELECT number, namespace FROM document ORDER BY number"

names_is : IsSelect names_text 0 4 [] (col 1 0 ∷ col 1 2 ∷ []) (order_by (0 ∷ []))
    (codes "number" ∷ codes "namespace" ∷ [])
unfolding everything
names_is = record {
  from = λ at not_null. (refl, refl, refl);
  is = λ at not_null. record { is = refl; plain = (refl, refl); suits = (refl, refl) };
}

pub names_finds : FindsRows names_text [] name_cells (λ t. t.document)
names_finds =
    finds_every (finds_all document_view (0 ∷ []) names_is [] refl refl (equals [])
    (0 ∷ []) (0 ∷ 1 ∷ []) (λ r. refl) (λ r. refl) (λ x. true) (λ x. refl)
    document_apart (λ t orderly. documents_sorted t.document orderly.sorted.document))

-- ---- the profiles of all documents

abbrev pub readings_text : List ℕ
readings_text = codes "SELECT document, profile FROM reading ORDER BY document"

readings_is : IsSelect readings_text 0 27 [] (col 1 0 ∷ col 1 2 ∷ []) (order_by (0 ∷ []))
    (codes "document" ∷ codes "profile" ∷ [])
unfolding everything
readings_is = record {
  from = λ at not_null. (refl, refl, refl);
  is = λ at not_null. record { is = refl; plain = (refl, refl); suits = (refl, refl) };
}

pub readings_finds : FindsRows readings_text [] reading_cells (λ t. t.document)
readings_finds =
    finds_every (finds_all reading_view (0 ∷ []) readings_is [] refl refl (equals [])
    (0 ∷ []) (0 ∷ 1 ∷ []) (λ r. refl) (λ r. refl) (λ x. true) (λ x. refl)
    reading_apart (λ t orderly. documents_sorted t.document orderly.sorted.document))
