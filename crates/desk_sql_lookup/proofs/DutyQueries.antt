-- What is shown of duties.
use Rattle.std.proofs.Common.{◌≡◌, ℕ, false, List, [], ◌∷◌, filter, codes, refl, is_lt}
use Rattle.sqlite_value.specs.declared.value.Value.TheVariants.{Text}
use Rattle.sqlite_sql.specs.Query.{key_cmp}
use Rattle.sqlite_trees.specs.Tree.{IsAscending}
use Rattle.sqlite_sql.specs.Term.{col}
use Rattle.sqlite_tied.specs.Compute.{everything}
use Rattle.desk_model.specs.Tables.{Tables}
use Rattle.desk_sql_layout.specs.Held.{AreOrderly}
use Rattle.desk_sql_layout.proofs.Ties.{keys}
use Rattle.desk_model.specs.Names.{duty_state_name}
use Rattle.desk_sql_lookup.specs.Standings.{stands_at}
use Rattle.desk_model.specs.Keys.{is_duty, is_duty_of}
use Rattle.desk_model.specs.declared.row.DutyRow.{DutyRow}
use Rattle.desk_sql_layout.specs.Cells.{duty_cells, number}
use Rattle.desk_sql_layout.proofs.Casts.{same}
use Rattle.desk_sql_layout.proofs.Finding.{FindsRows, finds_all, finds_one}
use Rattle.desk_sql_layout.proofs.Keyed.{duties_sorted}
use Rattle.desk_sql_layout.proofs.Selecting.{IsSelect}
use Rattle.desk_sql_layout.proofs.Selects.{order_by}
use Rattle.desk_sql_layout.proofs.Tests.{equals, last_text_test, number_key, number_test}
use Rattle.desk_sql_layout.proofs.Views.{duty_apart, duty_view}

-- ---- the duty with a number

abbrev pub duty_text : List ℕ
duty_text = codes
    "SELECT number, release, document, package, term, code, rule, state FROM duty WHERE number = ?1 ORDER BY number"

duty_is : IsSelect duty_text 1 23 (same 0 0 ∷ [])
    (col 1 0 ∷ col 1 2 ∷ col 1 3 ∷ col 1 4 ∷ col 1 5 ∷ col 1 6 ∷ col 1 7 ∷ col 1 8 ∷ [])
    (order_by (0 ∷ []))
    (codes "number" ∷ codes "release" ∷ codes "document" ∷ codes "package" ∷
    codes "term" ∷ codes "code" ∷ codes "rule" ∷ codes "state" ∷ [])
unfolding everything
duty_is = record {
  from = λ at not_null. (refl, refl, refl);
  is = λ at not_null. record { is = refl; plain = (refl, refl); suits = (refl, refl) };
}

pub duty_finds : (n : ℕ) → FindsRows duty_text (number n ∷ []) duty_cells
    (λ t. filter (is_duty n) t.duty)
duty_finds n =
    finds_one duty_view (0 ∷ []) duty_is (number n ∷ []) refl refl (equals ((0, number n) ∷ []))
    (0 ∷ []) (0 ∷ 1 ∷ 2 ∷ 3 ∷ 4 ∷ 5 ∷ 6 ∷ 7 ∷ []) (λ r. refl) (λ r. refl) (is_duty n)
    (λ x. number_test x.number n)
    duty_apart (number n ∷ []) (λ x. number_key x.number n)

-- ---- the duties of a release

abbrev pub duties_of_text : List ℕ
duties_of_text = codes
    "SELECT number, release, document, package, term, code, rule, state FROM duty WHERE release = ?1 ORDER BY number"

duties_of_is : IsSelect duties_of_text 1 23 (same 2 0 ∷ [])
    (col 1 0 ∷ col 1 2 ∷ col 1 3 ∷ col 1 4 ∷ col 1 5 ∷ col 1 6 ∷ col 1 7 ∷ col 1 8 ∷ [])
    (order_by (0 ∷ []))
    (codes "number" ∷ codes "release" ∷ codes "document" ∷ codes "package" ∷
    codes "term" ∷ codes "code" ∷ codes "rule" ∷ codes "state" ∷ [])
unfolding everything
duties_of_is = record {
  from = λ at not_null. (refl, refl, refl);
  is = λ at not_null. record { is = refl; plain = (refl, refl); suits = (refl, refl) };
}

in_order : (t : Tables) → AreOrderly t
    → IsAscending (λ a b. is_lt (key_cmp 0 (keys (0 ∷ [])) (number b.number ∷ [])
    (number a.number ∷ [])) ≡ false) t.duty
in_order t orderly = duties_sorted t.duty orderly.sorted.duty

pub duties_of_finds : (release : List ℕ) → FindsRows duties_of_text (Text release ∷ [])
    duty_cells (λ t. filter (is_duty_of release) t.duty)
duties_of_finds release =
    finds_all duty_view (0 ∷ []) duties_of_is (Text release ∷ []) refl refl
    (equals ((1, Text release) ∷ []))
    (0 ∷ []) (0 ∷ 1 ∷ 2 ∷ 3 ∷ 4 ∷ 5 ∷ 6 ∷ 7 ∷ []) (λ r. refl) (λ r. refl) (is_duty_of release)
    (λ x. last_text_test x.release release)
    duty_apart in_order

-- ---- the numbers and the states of the duties of a release

abbrev pub states_of_text : List ℕ
states_of_text = codes "SELECT number, state FROM duty WHERE release = ?1 ORDER BY number"

states_of_is : IsSelect states_of_text 1 23 (same 2 0 ∷ []) (col 1 0 ∷ col 1 8 ∷ [])
    (order_by (0 ∷ []))
    (codes "number" ∷ codes "state" ∷ [])
unfolding everything
states_of_is = record {
  from = λ at not_null. (refl, refl, refl);
  is = λ at not_null. record { is = refl; plain = (refl, refl); suits = (refl, refl) };
}

pub states_of_finds : (release : List ℕ) → FindsRows states_of_text (Text release ∷ [])
    (λ (x : DutyRow). number x.number ∷ Text (duty_state_name x.state) ∷ [])
    (λ t. filter (is_duty_of release) t.duty)
states_of_finds release =
    finds_all duty_view (0 ∷ []) states_of_is (Text release ∷ []) refl refl
    (equals ((1, Text release) ∷ []))
    (0 ∷ []) (0 ∷ 7 ∷ []) (λ r. refl) (λ r. refl) (is_duty_of release)
    (λ x. last_text_test x.release release)
    duty_apart in_order

-- ---- the duties in a state

abbrev pub duties_at_text : List ℕ
duties_at_text = codes
    "SELECT number, release, document, package, term, code, rule, state FROM duty WHERE state = ?1 ORDER BY number"

duties_at_is : IsSelect duties_at_text 1 23 (same 8 0 ∷ [])
    (col 1 0 ∷ col 1 2 ∷ col 1 3 ∷ col 1 4 ∷ col 1 5 ∷ col 1 6 ∷ col 1 7 ∷ col 1 8 ∷ [])
    (order_by (0 ∷ []))
    (codes "number" ∷ codes "release" ∷ codes "document" ∷ codes "package" ∷
    codes "term" ∷ codes "code" ∷ codes "rule" ∷ codes "state" ∷ [])
unfolding everything
duties_at_is = record {
  from = λ at not_null. (refl, refl, refl);
  is = λ at not_null. record { is = refl; plain = (refl, refl); suits = (refl, refl) };
}

pub duties_at_finds : (state : List ℕ) → FindsRows duties_at_text (Text state ∷ [])
    duty_cells (λ t. filter (stands_at state) t.duty)
duties_at_finds state =
    finds_all duty_view (0 ∷ []) duties_at_is (Text state ∷ []) refl refl
    (equals ((7, Text state) ∷ []))
    (0 ∷ []) (0 ∷ 1 ∷ 2 ∷ 3 ∷ 4 ∷ 5 ∷ 6 ∷ 7 ∷ []) (λ r. refl) (λ r. refl) (stands_at state)
    (λ x. last_text_test (duty_state_name x.state) state)
    duty_apart in_order
