-- Documents, their profiles, packages and extracted licences: what is shown when all of them are
-- asked for.
use Rattle.desk_sql_layout.specs.Layout as d
use Rattle.std.proofs.Common.{◌≡◌, ℕ, List, [], ◌∷◌, map, codes, refl}
use Rattle.std.specs.Ordering.{int_cmp, nat_cmp}
use Rattle.std.specs.Cmp.Lexicographic.{slice_cmp}
use Rattle.sqlite_value.specs.Order.{column}
use Rattle.sqlite_value.proofs.OrderLemmas.{value_cmp-Int, value_cmp-Text, then-Equal}
use Rattle.sqlite_sql.specs.Term.{col}
use Rattle.sqlite_resolve.specs.Compile.{first, returning}
use Rattle.sqlite_tied.specs.Compute.{everything}
use Rattle.desk_history.specs.Laws.{AreSortedAsListed, document_below}
use Rattle.desk_snapshot.specs.Orders.{reading_order, package_order}
use Rattle.desk_snapshot.specs.Tables.{document_stored, reading_stored, package_stored, extracted_stored}
use Rattle.desk_sql_layout.proofs.Selects.{order_by}
use Rattle.desk_sql_scan.specs.Cells.{stored_document_cells, stored_reading_cells}
use Rattle.desk_sql_scan.specs.Cells.{stored_package_cells, stored_extracted_cells}
use Rattle.desk_sql_scan.specs.Orders.{document_order, extracted_order}
use Rattle.desk_sql_scan.proofs.Scanning.{itself, sorted_by}
use Rattle.desk_sql_scan.proofs.Values.{number_in, text_in, bytes_in, text_if_any, as_it_was}
use Rattle.desk_sql_scan.proofs.Rising.{numbers_rise, extracted_rise, packages_rise}
use Rattle.desk_sql_adopt.proofs.Selecting.{IsBareSelect}
use Rattle.desk_sql_scan.specs.declared.source.Source.{Ghosts}
use Rattle.desk_sql_scan.proofs.Queries.{TellsRows, read_by_key, read_by_rowid}

-- ---- document

abbrev pub document_text : List ℕ
document_text = codes "SELECT number, namespace, bytes FROM document ORDER BY number"

document_is : IsBareSelect document_text 0 4 [] (col 1 0 ∷ col 1 2 ∷ col 1 3 ∷ [])
    (order_by (0 ∷ [])) (codes "number" ∷ codes "namespace" ∷ codes "bytes" ∷ [])
unfolding first returning everything
document_is = record {
  bare = λ schema base. refl;
  select = record {
    from = λ at not_null. (refl, refl, refl);
    is = λ at not_null. record { is = refl; plain = (refl, refl); suits = (refl, refl) };
  };
}

pub document_read : {S : Type 0} (g : Ghosts S)
    → TellsRows g document_text 3 d.document_table stored_document_cells document_order
    (λ rows t. rows ≡ map document_stored t.document)
document_read g =
    read_by_rowid g d.document_table 3 refl stored_document_cells document_order
    (λ cs. record {
      number = number_in (column cs 0);
      namespace = text_in (column cs 1);
      bytes = bytes_in (column cs 2);
    }) (λ a. refl) document_stored (λ t. t.document) (λ t. refl) 3 (λ r. refl)
    document_is refl (λ r. refl) (λ r. refl)
    (λ a b. rw (value_cmp-Int a.number b.number, then-Equal (int_cmp a.number b.number)) refl) _
    (λ rows t orderly found. found
    (numbers_rise document_below (λ row. row.number) (λ a b. refl) t.document
    orderly.sorted.document))

-- ---- reading

abbrev pub reading_text : List ℕ
reading_text = codes "SELECT document, profile FROM reading ORDER BY document"

reading_is : IsBareSelect reading_text 0 27 [] (col 1 0 ∷ col 1 2 ∷ []) (order_by (0 ∷ []))
    (codes "document" ∷ codes "profile" ∷ [])
unfolding first returning everything
reading_is = record {
  bare = λ schema base. refl;
  select = record {
    from = λ at not_null. (refl, refl, refl);
    is = λ at not_null. record { is = refl; plain = (refl, refl); suits = (refl, refl) };
  };
}

pub reading_read : {S : Type 0} (g : Ghosts S)
    → TellsRows g reading_text 2 d.reading_table stored_reading_cells reading_order
    (λ rows t. rows ≡ map reading_stored t.document)
reading_read g =
    read_by_rowid g d.reading_table 14 refl stored_reading_cells reading_order
    (λ cs. record { document = number_in (column cs 0); profile = number_in (column cs 1) })
    (λ a. refl) reading_stored (λ t. t.document) (λ t. refl) 2 (λ r. refl)
    reading_is refl (λ r. refl) (λ r. refl)
    (λ a b. rw (value_cmp-Int a.document b.document, then-Equal (int_cmp a.document b.document))
    refl) _ (λ rows t orderly found. found
    (numbers_rise document_below (λ row. row.number) (λ a b. refl) t.document
    orderly.sorted.document))

-- ---- package

abbrev pub package_text : List ℕ
package_text = codes
    "SELECT document, id, name, version, concluded, copyright, shipped FROM package ORDER BY +document, id"

package_is : IsBareSelect package_text 0 6 []
    (col 1 1 ∷ col 1 2 ∷ col 1 3 ∷ col 1 4 ∷ col 1 5 ∷ col 1 6 ∷ col 1 7 ∷ [])
    (sorted_by (1 ∷ 2 ∷ [])) (codes "document" ∷ codes "id" ∷ codes "name" ∷ codes "version"
    ∷ codes "concluded" ∷ codes "copyright" ∷ codes "shipped" ∷ [])
unfolding first returning everything
package_is = record {
  bare = λ schema base. refl;
  select = record {
    from = λ at not_null. (refl, refl, refl);
    is = λ at not_null. record { is = refl; plain = (refl, refl); suits = (refl, refl) };
  };
}

pub package_read : {S : Type 0} (g : Ghosts S)
    → TellsRows g package_text 7 d.package_table stored_package_cells package_order
    (λ rows t. rows ≡ map package_stored t.packages)
package_read g =
    read_by_key g d.package_table 4 refl stored_package_cells package_order
    (λ cs. record {
      document = number_in (column cs 0);
      id = text_in (column cs 1);
      name = text_in (column cs 2);
      version = text_if_any (column cs 3);
      concluded = text_if_any (column cs 4);
      copyright = text_if_any (column cs 5);
      shipped = number_in (column cs 6);
    }) (λ a. λ i. record {
      document = a.document;
      id = a.id;
      name = a.name;
      version = as_it_was a.version i;
      concluded = as_it_was a.concluded i;
      copyright = as_it_was a.copyright i;
      shipped = a.shipped;
    }) package_stored (λ t. t.packages) (λ t. refl) 7 (λ r. refl)
    (1 ∷ 2 ∷ []) (0 ∷ 1 ∷ []) 0 refl refl refl package_is refl (λ r. rw (itself (column r 1)) refl)
    (λ r. refl) (λ r. refl) (λ x. refl)
    (λ a b. rw (
      value_cmp-Int a.document b.document,
      value_cmp-Text a.id b.id,
      then-Equal (slice_cmp nat_cmp a.id b.id),
    ) refl) _ (λ rows t orderly found. found (packages_rise t.packages orderly.packages))

-- ---- extracted

abbrev pub extracted_text : List ℕ
extracted_text = codes
    "SELECT document, reference, body FROM extracted ORDER BY +document, reference"

extracted_is : IsBareSelect extracted_text 0 8 [] (col 1 1 ∷ col 1 2 ∷ col 1 3 ∷ [])
    (sorted_by (1 ∷ 2 ∷ [])) (codes "document" ∷ codes "reference" ∷ codes "body" ∷ [])
unfolding first returning everything
extracted_is = record {
  bare = λ schema base. refl;
  select = record {
    from = λ at not_null. (refl, refl, refl);
    is = λ at not_null. record { is = refl; plain = (refl, refl); suits = (refl, refl) };
  };
}

pub extracted_read : {S : Type 0} (g : Ghosts S)
    → TellsRows g extracted_text 3 d.extracted_table stored_extracted_cells extracted_order
    (λ rows t. AreSortedAsListed t → rows ≡ map extracted_stored t.extracted)
extracted_read g =
    read_by_key g d.extracted_table 5 refl stored_extracted_cells extracted_order
    (λ cs. record {
      document = number_in (column cs 0);
      reference = text_in (column cs 1);
      body = text_if_any (column cs 2);
    }) (λ a. λ i. record {
      document = a.document;
      reference = a.reference;
      body = as_it_was a.body i;
    }) extracted_stored (λ t. t.extracted) (λ t. refl) 3 (λ r. refl)
    (1 ∷ 2 ∷ []) (0 ∷ 1 ∷ []) 0 refl refl refl extracted_is refl
    (λ r. rw (itself (column r 1)) refl) (λ r. refl) (λ r. refl) (λ x. refl)
    (λ a b. rw (
      value_cmp-Int a.document b.document,
      value_cmp-Text a.reference b.reference,
      then-Equal (slice_cmp nat_cmp a.reference b.reference),
    ) refl) _ (λ rows t orderly found sorted. found (extracted_rise t.extracted sorted.extracted))
