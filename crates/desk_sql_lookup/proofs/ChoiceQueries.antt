-- What is shown of choices: all of them, those of a release, and those for a package.
use Rattle.std.proofs.Common.{◌≡◌, ◌∙◌, ℕ, true, false, List, [], ◌∷◌, filter, codes, refl, is_lt}
use Rattle.std.specs.Prelude.{◌==◌, bytes_eq}
use Rattle.sqlite_value.specs.declared.value.Value.TheVariants.{Text}
use Rattle.sqlite_sql.specs.Query.{key_cmp}
use Rattle.sqlite_trees.specs.Tree.{IsAscending}
use Rattle.sqlite_sql.specs.Term.{col}
use Rattle.sqlite_tied.specs.Compute.{everything}
use Rattle.desk_model.specs.Tables.{Tables}
use Rattle.desk_sql_layout.specs.Held.{AreOrderly}
use Rattle.desk_sql_layout.proofs.Ties.{keys}
use Rattle.desk_base.proofs.Bools.{together}
use Rattle.desk_sql_layout.specs.Shown.{text_cells}
use Rattle.desk_model.specs.Keys.{is_choice_in, is_choice_of}
use Rattle.desk_model.specs.declared.row.ChoiceRow.{ChoiceRow}
use Rattle.desk_sql_layout.specs.Cells.{choice_cells, number}
use Rattle.desk_sql_layout.proofs.Casts.{same}
use Rattle.desk_sql_layout.proofs.Finding.{FindsRows, finds_all, finds_every}
use Rattle.desk_sql_layout.proofs.Keyed.{choices_sorted}
use Rattle.desk_sql_layout.proofs.Selecting.{IsSelect}
use Rattle.desk_sql_layout.proofs.Selects.{order_by}
use Rattle.desk_sql_layout.proofs.Tests.{equals, last_text_test, number_then, text_then}
use Rattle.desk_sql_layout.proofs.Views.{choice_apart, choice_view}

-- ---- all choices

abbrev pub choices_text : List ℕ
choices_text = codes
    "SELECT release, document, package, term FROM choice ORDER BY release, document, package, term"

choices_is : IsSelect choices_text 0 19 []
    (col 1 1 ∷ col 1 2 ∷ col 1 3 ∷ col 1 4 ∷ []) (order_by (1 ∷ 2 ∷ 3 ∷ 4 ∷ []))
    (codes "release" ∷ codes "document" ∷ codes "package" ∷ codes "term" ∷ [])
unfolding everything
choices_is = record {
  from = λ at not_null. (refl, refl, refl);
  is = λ at not_null. record { is = refl; plain = (refl, refl); suits = (refl, refl) };
}

in_order : (t : Tables) → AreOrderly t
    → IsAscending (λ a b. is_lt (key_cmp 0 (keys (1 ∷ 2 ∷ 3 ∷ 4 ∷ []))
    (Text b.release ∷ number b.document ∷ Text b.package_id ∷ Text b.term ∷ [])
    (Text a.release ∷ number a.document ∷ Text a.package_id ∷ Text a.term ∷ [])) ≡ false) t.choice
in_order t orderly = choices_sorted t.choice orderly.sorted.choice

pub choices_finds : FindsRows choices_text [] choice_cells (λ t. t.choice)
choices_finds =
    finds_every (finds_all choice_view (1 ∷ 2 ∷ 3 ∷ 4 ∷ []) choices_is [] refl refl (equals [])
    (0 ∷ 1 ∷ 2 ∷ 3 ∷ []) (0 ∷ 1 ∷ 2 ∷ 3 ∷ []) (λ r. refl) (λ r. refl) (λ x. true) (λ x. refl)
    choice_apart in_order)

-- ---- those of a release

abbrev pub choices_in_text : List ℕ
choices_in_text = codes
    "SELECT release, document, package, term FROM choice WHERE release = ?1 ORDER BY release, document, package, term"

choices_in_is : IsSelect choices_in_text 1 19 (same 1 0 ∷ [])
    (col 1 1 ∷ col 1 2 ∷ col 1 3 ∷ col 1 4 ∷ []) (order_by (1 ∷ 2 ∷ 3 ∷ 4 ∷ []))
    (codes "release" ∷ codes "document" ∷ codes "package" ∷ codes "term" ∷ [])
unfolding everything
choices_in_is = record {
  from = λ at not_null. (refl, refl, refl);
  is = λ at not_null. record { is = refl; plain = (refl, refl); suits = (refl, refl) };
}

pub choices_in_finds : (release : List ℕ) → FindsRows choices_in_text (Text release ∷ [])
    choice_cells (λ t. filter (is_choice_in release) t.choice)
choices_in_finds release =
    finds_all choice_view (1 ∷ 2 ∷ 3 ∷ 4 ∷ []) choices_in_is (Text release ∷ []) refl refl
    (equals ((0, Text release) ∷ []))
    (0 ∷ 1 ∷ 2 ∷ 3 ∷ []) (0 ∷ 1 ∷ 2 ∷ 3 ∷ []) (λ r. refl) (λ r. refl) (is_choice_in release)
    (λ x. last_text_test x.release release)
    choice_apart in_order

-- ---- the terms chosen for a package in a release

abbrev pub chosen_text : List ℕ
chosen_text = codes
    "SELECT term FROM choice WHERE release = ?1 AND document = ?2 AND package = ?3 ORDER BY release, document, package, term"

chosen_is : IsSelect chosen_text 3 19 (same 1 0 ∷ same 2 1 ∷ same 3 2 ∷ [])
    (col 1 4 ∷ []) (order_by (1 ∷ 2 ∷ 3 ∷ 4 ∷ []))
    (codes "term" ∷ [])
unfolding everything
chosen_is = record {
  from = λ at not_null. (refl, refl, refl);
  is = λ at not_null. record { is = refl; plain = (refl, refl); suits = (refl, refl) };
}

is_chosen : (release : List ℕ) (document : ℕ) (id : List ℕ) (x : ChoiceRow)
    → equals ((0, Text release) ∷ (1, number document) ∷ (2, Text id) ∷ []) (choice_cells x)
    ≡ is_choice_of release document id x
is_chosen release document id x =
    text_then x.release release (number_then x.document document (last_text_test x.package_id id))
    ∙ together (bytes_eq x.release release) (x.document == document) (bytes_eq x.package_id id)

pub chosen_finds : (release : List ℕ) (document : ℕ) (id : List ℕ)
    → FindsRows chosen_text (Text release ∷ number document ∷ Text id ∷ [])
    (λ (x : ChoiceRow). text_cells x.term) (λ t. filter (is_choice_of release document id) t.choice)
chosen_finds release document id =
    finds_all choice_view (1 ∷ 2 ∷ 3 ∷ 4 ∷ []) chosen_is
    (Text release ∷ number document ∷ Text id ∷ []) refl refl
    (equals ((0, Text release) ∷ (1, number document) ∷ (2, Text id) ∷ []))
    (0 ∷ 1 ∷ 2 ∷ 3 ∷ []) (3 ∷ []) (λ r. refl) (λ r. refl) (is_choice_of release document id)
    (is_chosen release document id)
    choice_apart in_order
