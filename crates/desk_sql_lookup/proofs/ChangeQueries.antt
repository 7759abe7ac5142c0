-- What is shown of the changes of duties.
use Rattle.std.proofs.Common.{◌≡◌, ℕ, Bool, true, false, List, [], ◌∷◌, filter, codes, length, refl, is_eq, is_lt}
use Rattle.std.specs.Prelude.{◌&&◌}
use Rattle.sqlite_value.specs.declared.keys.Collation.TheVariants.{Binary}
use Rattle.sqlite_value.specs.Order.{Row, column}
use Rattle.sqlite_trees.proofs.ListLemmas.{ascending-filter}
use Rattle.sqlite_sql.specs.declared.ops.BinaryOp.TheVariants.{Compare}
use Rattle.sqlite_sql.specs.declared.ops.CompareOp.TheVariants.{Ge, Le}
use Rattle.sqlite_sql.specs.Ops.{binary, is_true}
use Rattle.sqlite_sql.specs.Query.{key_cmp}
use Rattle.sqlite_trees.specs.Tree.{IsAscending}
use Rattle.sqlite_sql.specs.Term.{col}
use Rattle.sqlite_tied.specs.Compute.{everything}
use Rattle.desk_model.specs.Tables.{Tables}
use Rattle.desk_sql_layout.specs.Held.{AreOrderly}
use Rattle.desk_sql_layout.proofs.Ties.{keys}
use Rattle.desk_sql_layout.specs.Shown.{day_cells, number_cells}
use Rattle.desk_sql_lookup.specs.Steps.{is_change_within}
use Rattle.desk_model.specs.Keys.{is_change_of}
use Rattle.desk_model.specs.declared.row.ChangeRow.{ChangeRow}
use Rattle.desk_model.specs.Moves.{is_waiver}
use Rattle.desk_sql_layout.specs.Cells.{change_cells, number, text_or_null}
use Rattle.desk_sql_layout.proofs.Casts.{run_test, same, within}
use Rattle.desk_sql_layout.proofs.Finding.{Finds, FindsRows, finds_all, finds_apart, finds_count}
use Rattle.desk_sql_layout.proofs.Keyed.{changes_sorted}
use Rattle.desk_sql_layout.proofs.Selecting.{IsSelect}
use Rattle.desk_sql_layout.proofs.Selects.{order_by}
use Rattle.desk_sql_layout.proofs.Tests.{equals, number_test}
use Rattle.desk_sql_layout.proofs.Views.{change_apart, change_view, waiver_apart, waiver_view}

-- ---- how many changes a duty has

abbrev pub steps_text : List ℕ
steps_text = codes "SELECT step FROM change WHERE duty = ?1"

steps_is : IsSelect steps_text 1 25 (same 1 0 ∷ []) (col 1 2 ∷ []) (order_by []) (codes "step" ∷ [])
unfolding everything
steps_is = record {
  from = λ at not_null. (refl, refl, refl);
  is = λ at not_null. record { is = refl; plain = (refl, refl); suits = (refl, refl) };
}

pub steps_finds : (duty : ℕ) → Finds steps_text (number duty ∷ [])
    (λ t rows. length rows ≡ length (filter (is_change_of duty) t.changes))
steps_finds duty =
    finds_count change_view [] steps_is (number duty ∷ []) refl refl
    (equals ((0, number duty) ∷ []))
    [] (1 ∷ []) (λ r. refl) (λ r. refl) (is_change_of duty) (λ x. number_test x.duty duty)

-- ---- the duties of changes from a first to a last one

abbrev pub changed_text : List ℕ
changed_text = codes "SELECT duty FROM change WHERE duty >= ?1 AND duty <= ?2 ORDER BY duty, step"

changed_is : IsSelect changed_text 2 25 (within 1) (col 1 1 ∷ []) (order_by (1 ∷ 2 ∷ []))
    (codes "duty" ∷ [])
unfolding everything
changed_is = record {
  from = λ at not_null. (refl, refl, refl);
  is = λ at not_null. record { is = refl; plain = (refl, refl); suits = (refl, refl) };
}

abbrev changed_test : ℕ → ℕ → Row → Bool
changed_test first last cs =
    is_true (binary (Compare Ge Binary) (column cs 0) (number first))
    && (is_true (binary (Compare Le Binary) (column cs 0) (number last)) && true)

in_order : (t : Tables) → AreOrderly t
    → IsAscending (λ a b. is_lt (key_cmp 0 (keys (1 ∷ 2 ∷ [])) (number b.duty ∷ number b.step ∷ [])
    (number a.duty ∷ number a.step ∷ [])) ≡ false) t.changes
in_order t orderly = changes_sorted t.changes orderly.sorted.changes

pub changed_finds : (first last : ℕ) → FindsRows changed_text (number first ∷ number last ∷ [])
    (λ (x : ChangeRow). number_cells x.duty) (λ t. filter (is_change_within first last) t.changes)
changed_finds first last =
    finds_all change_view (1 ∷ 2 ∷ []) changed_is (number first ∷ number last ∷ []) refl refl
    (changed_test first last)
    (0 ∷ 1 ∷ []) (0 ∷ []) (λ r. refl) (λ r. refl) (is_change_within first last)
    (λ x. run_test first last x.duty)
    change_apart in_order

-- ---- the changes of a duty

abbrev pub changes_of_text : List ℕ
changes_of_text = codes
    "SELECT duty, step, day, word, body FROM change WHERE duty = ?1 ORDER BY duty, step"

changes_of_is : IsSelect changes_of_text 1 25 (same 1 0 ∷ [])
    (col 1 1 ∷ col 1 2 ∷ col 1 3 ∷ col 1 4 ∷ col 1 5 ∷ []) (order_by (1 ∷ 2 ∷ []))
    (codes "duty" ∷ codes "step" ∷ codes "day" ∷ codes "word" ∷ codes "body" ∷ [])
unfolding everything
changes_of_is = record {
  from = λ at not_null. (refl, refl, refl);
  is = λ at not_null. record { is = refl; plain = (refl, refl); suits = (refl, refl) };
}

pub changes_of_finds : (duty : ℕ) → FindsRows changes_of_text (number duty ∷ [])
    change_cells (λ t. filter (is_change_of duty) t.changes)
changes_of_finds duty =
    finds_all change_view (1 ∷ 2 ∷ []) changes_of_is (number duty ∷ []) refl refl
    (equals ((0, number duty) ∷ []))
    (0 ∷ 1 ∷ []) (0 ∷ 1 ∷ 2 ∷ 3 ∷ 4 ∷ []) (λ r. refl) (λ r. refl) (is_change_of duty)
    (λ x. number_test x.duty duty)
    change_apart in_order

-- no two of them have the same step
pub changes_of_apart : (duty : ℕ) → Finds changes_of_text (number duty ∷ []) (λ t rows.
    IsAscending (λ (a : ChangeRow) (b : ChangeRow). is_eq (key_cmp 0 (keys (1 ∷ 2 ∷ []))
    (number a.duty ∷ number a.step ∷ []) (number b.duty ∷ number b.step ∷ [])) ≡ false)
    (filter (is_change_of duty) t.changes))
changes_of_apart duty =
    finds_apart change_view (1 ∷ 2 ∷ []) changes_of_is (number duty ∷ []) refl refl
    (equals ((0, number duty) ∷ []))
    (0 ∷ 1 ∷ []) (0 ∷ 1 ∷ 2 ∷ 3 ∷ 4 ∷ []) (λ r. refl) (λ r. refl) (is_change_of duty)
    (λ x. number_test x.duty duty)
    change_apart

-- ---- the waivers of a duty that end

abbrev pub waivers_of_text : List ℕ
waivers_of_text = codes "SELECT step, last_day FROM waiver WHERE duty = ?1 ORDER BY duty, step"

waivers_of_is : IsSelect waivers_of_text 1 28 (same 1 0 ∷ []) (col 1 2 ∷ col 1 3 ∷ [])
    (order_by (1 ∷ 2 ∷ []))
    (codes "step" ∷ codes "last_day" ∷ [])
unfolding everything
waivers_of_is = record {
  from = λ at not_null. (refl, refl, refl);
  is = λ at not_null. record { is = refl; plain = (refl, refl); suits = (refl, refl) };
}

pub waivers_of_finds : (duty : ℕ) → FindsRows waivers_of_text (number duty ∷ [])
    (λ (x : ChangeRow). number x.step ∷ text_or_null x.last_day ∷ [])
    (λ t. filter (is_change_of duty) (filter is_waiver t.changes))
waivers_of_finds duty =
    finds_all waiver_view (1 ∷ 2 ∷ []) waivers_of_is (number duty ∷ []) refl refl
    (equals ((0, number duty) ∷ []))
    (0 ∷ 1 ∷ []) (1 ∷ 2 ∷ []) (λ r. refl) (λ r. refl) (is_change_of duty)
    (λ x. number_test x.duty duty)
    waiver_apart (λ t orderly. ascending-filter _ is_waiver t.changes (in_order t orderly))

-- ---- the days of the changes of a duty

abbrev pub days_of_text : List ℕ
days_of_text = codes "SELECT day FROM change WHERE duty = ?1 ORDER BY duty, step"

days_of_is : IsSelect days_of_text 1 25 (same 1 0 ∷ []) (col 1 3 ∷ []) (order_by (1 ∷ 2 ∷ []))
    (codes "day" ∷ [])
unfolding everything
days_of_is = record {
  from = λ at not_null. (refl, refl, refl);
  is = λ at not_null. record { is = refl; plain = (refl, refl); suits = (refl, refl) };
}

pub days_of_finds : (duty : ℕ) → FindsRows days_of_text (number duty ∷ [])
    day_cells (λ t. filter (is_change_of duty) t.changes)
days_of_finds duty =
    finds_all change_view (1 ∷ 2 ∷ []) days_of_is (number duty ∷ []) refl refl
    (equals ((0, number duty) ∷ []))
    (0 ∷ 1 ∷ []) (2 ∷ []) (λ r. refl) (λ r. refl) (is_change_of duty) (λ x. number_test x.duty duty)
    change_apart in_order
