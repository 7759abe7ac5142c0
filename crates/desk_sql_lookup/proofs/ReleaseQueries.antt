-- What is shown of releases, what is attached to them, and what they were frozen with.
use Rattle.std.proofs.Common.{◌≡◌, ℕ, true, List, [], ◌∷◌, filter, codes, length, refl}
use Rattle.std.specs.Prelude.{bytes_eq}
use Rattle.sqlite_value.specs.declared.value.Value.TheVariants.{Text}
use Rattle.sqlite_sql.specs.Term.{col}
use Rattle.sqlite_tied.specs.Compute.{everything}
use Rattle.desk_model.specs.Keys.{is_attached_to, is_release}
use Rattle.desk_sql_layout.specs.Cells.{attached_cells, frozen_cells, release_cells}
use Rattle.desk_sql_layout.proofs.Casts.{same}
use Rattle.desk_sql_layout.proofs.Finding.{Finds, FindsRows, finds_all, finds_count, finds_every, finds_one}
use Rattle.desk_sql_layout.proofs.Keyed.{attached_sorted, frozen_sorted, releases_sorted}
use Rattle.desk_sql_layout.proofs.Selecting.{IsSelect}
use Rattle.desk_sql_layout.proofs.Selects.{order_by}
use Rattle.desk_sql_layout.proofs.Tests.{equals, last_text_test, text_key}
use Rattle.desk_sql_layout.proofs.Views.{
  attached_apart,
  attached_view,
  frozen_apart,
  frozen_view,
  release_apart,
  release_view,
}

-- ---- the release with a name

abbrev pub release_text : List ℕ
release_text = codes
    "SELECT name, place, form, state, revision FROM releases WHERE name = ?1 ORDER BY name"

release_is : IsSelect release_text 1 14 (same 1 0 ∷ [])
    (col 1 1 ∷ col 1 2 ∷ col 1 3 ∷ col 1 4 ∷ col 1 5 ∷ []) (order_by (1 ∷ []))
    (codes "name" ∷ codes "place" ∷ codes "form" ∷ codes "state" ∷ codes "revision" ∷ [])
unfolding everything
release_is = record {
  from = λ at not_null. (refl, refl, refl);
  is = λ at not_null. record { is = refl; plain = (refl, refl); suits = (refl, refl) };
}

pub release_finds : (name : List ℕ) → FindsRows release_text (Text name ∷ [])
    release_cells (λ t. filter (is_release name) t.releases)
release_finds name =
    finds_one release_view (1 ∷ []) release_is (Text name ∷ []) refl refl
    (equals ((0, Text name) ∷ []))
    (0 ∷ []) (0 ∷ 1 ∷ 2 ∷ 3 ∷ 4 ∷ []) (λ r. refl) (λ r. refl) (is_release name)
    (λ x. last_text_test x.name name)
    release_apart (Text name ∷ []) (λ x. text_key x.name name)

-- ---- the documents attached to a release

abbrev pub attached_text : List ℕ
attached_text = codes
    "SELECT release, document FROM attached WHERE release = ?1 ORDER BY release, document"

attached_is : IsSelect attached_text 1 17 (same 1 0 ∷ []) (col 1 1 ∷ col 1 2 ∷ [])
    (order_by (1 ∷ 2 ∷ []))
    (codes "release" ∷ codes "document" ∷ [])
unfolding everything
attached_is = record {
  from = λ at not_null. (refl, refl, refl);
  is = λ at not_null. record { is = refl; plain = (refl, refl); suits = (refl, refl) };
}

pub attached_finds : (release : List ℕ) → FindsRows attached_text (Text release ∷ [])
    attached_cells (λ t. filter (is_attached_to release) t.attached)
attached_finds release =
    finds_all attached_view (1 ∷ 2 ∷ []) attached_is (Text release ∷ []) refl refl
    (equals ((0, Text release) ∷ []))
    (0 ∷ 1 ∷ []) (0 ∷ 1 ∷ []) (λ r. refl) (λ r. refl) (is_attached_to release)
    (λ x. last_text_test x.release release)
    attached_apart (λ t orderly. attached_sorted t.attached orderly.sorted.attached)

-- ---- how many documents are attached to a release

abbrev pub attached_count_text : List ℕ
attached_count_text = codes "SELECT document FROM attached WHERE release = ?1"

attached_count_is : IsSelect attached_count_text 1 17 (same 1 0 ∷ []) (col 1 2 ∷ []) (order_by [])
    (codes "document" ∷ [])
unfolding everything
attached_count_is = record {
  from = λ at not_null. (refl, refl, refl);
  is = λ at not_null. record { is = refl; plain = (refl, refl); suits = (refl, refl) };
}

pub attached_count_finds : (release : List ℕ) → Finds attached_count_text (Text release ∷ [])
    (λ t rows. length rows ≡ length (filter (is_attached_to release) t.attached))
attached_count_finds release =
    finds_count attached_view [] attached_count_is (Text release ∷ []) refl refl
    (equals ((0, Text release) ∷ []))
    [] (1 ∷ []) (λ r. refl) (λ r. refl) (is_attached_to release)
    (λ x. last_text_test x.release release)

-- ---- the terms with which a release was frozen

abbrev pub frozen_text : List ℕ
frozen_text = codes
    "SELECT release, document, package, term, rule FROM frozen WHERE release = ?1 ORDER BY release, document, package, term"

frozen_is : IsSelect frozen_text 1 21 (same 1 0 ∷ [])
    (col 1 1 ∷ col 1 2 ∷ col 1 3 ∷ col 1 4 ∷ col 1 5 ∷ []) (order_by (1 ∷ 2 ∷ 3 ∷ 4 ∷ []))
    (codes "release" ∷ codes "document" ∷ codes "package" ∷ codes "term" ∷ codes "rule" ∷ [])
unfolding everything
frozen_is = record {
  from = λ at not_null. (refl, refl, refl);
  is = λ at not_null. record { is = refl; plain = (refl, refl); suits = (refl, refl) };
}

pub frozen_finds : (release : List ℕ) → FindsRows frozen_text (Text release ∷ [])
    frozen_cells (λ t. filter (λ row. bytes_eq row.release release) t.frozen)
frozen_finds release =
    finds_all frozen_view (1 ∷ 2 ∷ 3 ∷ 4 ∷ []) frozen_is (Text release ∷ []) refl refl
    (equals ((0, Text release) ∷ []))
    (0 ∷ 1 ∷ 2 ∷ 3 ∷ []) (0 ∷ 1 ∷ 2 ∷ 3 ∷ 4 ∷ []) (λ r. refl) (λ r. refl)
    (λ row. bytes_eq row.release release) (λ x. last_text_test x.release release)
    frozen_apart (λ t orderly. frozen_sorted t.frozen orderly.sorted.frozen)

-- ---- all releases

abbrev pub releases_text : List ℕ
releases_text = codes "SELECT name, place, form, state, revision FROM releases ORDER BY name"

releases_is : IsSelect releases_text 0 14 []
    (col 1 1 ∷ col 1 2 ∷ col 1 3 ∷ col 1 4 ∷ col 1 5 ∷ []) (order_by (1 ∷ []))
    (codes "name" ∷ codes "place" ∷ codes "form" ∷ codes "state" ∷ codes "revision" ∷ [])
unfolding everything
releases_is = record {
  from = λ at not_null. (refl, refl, refl);
  is = λ at not_null. record { is = refl; plain = (refl, refl); suits = (refl, refl) };
}

pub releases_finds : FindsRows releases_text [] release_cells (λ t. t.releases)
releases_finds =
    finds_every (finds_all release_view (1 ∷ []) releases_is [] refl refl (equals [])
    (0 ∷ []) (0 ∷ 1 ∷ 2 ∷ 3 ∷ 4 ∷ []) (λ r. refl) (λ r. refl) (λ x. true) (λ x. refl)
    release_apart (λ t orderly. releases_sorted t.releases orderly.sorted.releases))
