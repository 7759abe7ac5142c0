-- What each DELETE does to the tables, and why it fails.
use Rattle.std.proofs.Common.{◌≡◌, ◌≢◌, ℕ, ◌+◌, Bool, true, not, List, [], ◌∷◌, filter, map, length}
use Rattle.std.proofs.Common.{codes, refl, sym, ap, ◌∙◌}
use Rattle.std.specs.Prelude.{◌==◌, bytes_eq}
use Rattle.std.specs.List.{AllByRecursion}
use Rattle.std.specs.List.Sorted.{IsPermutation}
use Rattle.sqlite_value.specs.declared.value.Value.{Value}
use Rattle.sqlite_value.specs.declared.value.Value.TheVariants.{Text}
use Rattle.sqlite_value.specs.Order.{Row}
use Rattle.sqlite_trees.proofs.ListLemmas.{filter-map, IsPermutation-same}
use Rattle.sqlite_sql.specs.Term.{Term, col}
use Rattle.sqlite_schema.specs.declared.command.Command.TheVariants.{Delete}
use Rattle.sqlite_typing.specs.Types.{accepts_program}
use Rattle.sqlite_tied.specs.Compute.{everything}
use Rattle.desk_model.specs.Keys.{is_choice_of, is_choice_in, is_conclusion, is_adoption}
use Rattle.desk_model.specs.Tables.{Tables, is_other_choice, is_choice_elsewhere}
use Rattle.desk_sql_layout.specs.Layout as d
use Rattle.desk_sql_layout.specs.Cells.{number}
use Rattle.desk_sql_layout.specs.Held.{rows_of}
use Rattle.desk_sql_layout.specs.Stored.{cells}
use Rattle.desk_sql_layout.proofs.Casts.{same}
use Rattle.desk_sql_layout.proofs.Queries.{query_on, passes}
use Rattle.desk_sql_layout.proofs.Selecting.{as_declared}
use Rattle.desk_sql_layout.proofs.Writing.{IsWrite}
use Rattle.desk_sql_layout.proofs.Tests.{equals, last_text_test, number_then, text_then}
use Rattle.desk_sql_layout.proofs.Views.{View, adoption_view, choice_view, conclusion_view}
use Rattle.desk_sql_write.proofs.Behind.{not_other}
use Rattle.desk_sql_write.proofs.Deleting.{deleted_turns}
use Rattle.desk_sql_write.proofs.Failing.{Makes}
use Rattle.desk_base.proofs.Bools.{together}

-- the first of these cells equals this parameter, the next one the next
abbrev tests_of : ℕ → List ℕ → List Term
tests_of param [] = []
tests_of param (at ∷ more) = same (at + 1) param ∷ tests_of (param + 1) more

-- a text drops the rows of a table whose cells equal its parameters
abbrev IsDrop : List ℕ → ℕ → ℕ → ℕ → List ℕ → Type 0
IsDrop text count place tree columns = IsWrite text count tree
    (λ at_place at. Delete at_place (record {
      lets = [];
      body = query_on at (tests_of 0 columns) (col 1 0 ∷ []) [];
    }))

module _ {X : Type 0} (view : View X) (goes : X → Bool) (made : Tables → Tables)
    (mine : (t : Tables) → view.held (made t) ≡ filter (λ x. not (goes x)) (view.held t))
    (others : (t : Tables) → AllByRecursion
    (λ u. u.tree ≢ view.table.tree → rows_of (made t) u.tree ≡ rows_of t u.tree)
    d.desk_schema.tables) where
  left : (q : Row → Bool) → ((x : X) → q (view.cells_of x) ≡ goes x) → (t : Tables)
      → IsPermutation (rows_of (made t) view.table.tree)
      (filter (λ c. not (q c)) (rows_of t view.table.tree))
  left q agree t =
      let kept = λ (c : Row). not (q c) in
      IsPermutation-same _ _ (view.here (made t) ∙ ap (map view.cells_of) (mine t)
      ∙ sym (ap (filter kept) (view.here t) ∙ filter-map kept view.cells_of (view.held t)
      ∙ (λ i. map view.cells_of (filter (λ x. not (agree x i)) (view.held t)))))

  -- each of these cells equals its value
  drops : (text : List ℕ) (by : List (ℕ × Value))
      → IsDrop text (length (map (λ (p : ℕ × Value). p.1) by)) view.place view.table.tree
      (map (λ (p : ℕ × Value). p.0) by)
      → accepts_program d.desk_schema []
      (query_on view.table.tree (tests_of 0 (map (λ (p : ℕ × Value). p.0) by)) (col 1 0 ∷ []) [])
      (map (λ (p : ℕ × Value). p.1) by) ≡ true
      → ((r : Row) → passes (tests_of 0 (map (λ (p : ℕ × Value). p.0) by))
      (map (λ (p : ℕ × Value). p.1) by) r ≡ equals by (cells (as_declared view.table) r))
      → ((x : X) → equals by (view.cells_of x) ≡ goes x)
      → Makes text (map (λ (p : ℕ × Value). p.1) by) made
  drops text by reads accepts agree tested old new =
      let this = view.table in
      deleted_turns this.name this.tree this.columns this.key this.primary this.uniques this.orders
      rows_of made view.place view.listed text (map (λ (p : ℕ × Value). p.1) by)
      (tests_of 0 (map (λ (p : ℕ × Value). p.0) by)) (equals by) reads accepts agree others
      (left (equals by) tested) old new

-- ---- drop_choices

abbrev drop_choices_text : List ℕ
drop_choices_text = codes "DELETE FROM choice WHERE release = ?1 AND document = ?2 AND package = ?3"

drop_choices_reads : IsDrop drop_choices_text 3 10 19 (0 ∷ 1 ∷ 2 ∷ [])
unfolding everything
drop_choices_reads = record {
  from = λ at not_null. (refl, refl, refl, refl);
  is = λ place at not_null. record { is = refl; plain = (refl, refl); suits = (refl, refl) };
}

pub choices_dropped : (release : List ℕ) (document : ℕ) (package_id : List ℕ)
    → Makes drop_choices_text (Text release ∷ number document ∷ Text package_id ∷ [])
    (λ t. record t { choice = filter (is_other_choice release document package_id) t.choice })
choices_dropped release document package_id =
    drops choice_view (is_choice_of release document package_id)
    (λ t. record t { choice = filter (is_other_choice release document package_id) t.choice })
    (λ t. refl) (λ t. search not_other) drop_choices_text
    ((0, Text release) ∷ (1, number document) ∷ (2, Text package_id) ∷ []) drop_choices_reads refl
    (λ r. refl)
    (λ row. text_then row.release release (number_then row.document document
    (last_text_test row.package_id package_id))
    ∙ together (bytes_eq row.release release) (row.document == document)
    (bytes_eq row.package_id package_id))

-- ---- drop_choices_in

abbrev drop_choices_in_text : List ℕ
drop_choices_in_text = codes "DELETE FROM choice WHERE release = ?1"

drop_choices_in_reads : IsDrop drop_choices_in_text 1 10 19 (0 ∷ [])
unfolding everything
drop_choices_in_reads = record {
  from = λ at not_null. (refl, refl, refl, refl);
  is = λ place at not_null. record { is = refl; plain = (refl, refl); suits = (refl, refl) };
}

pub choices_dropped_in : (release : List ℕ)
    → Makes drop_choices_in_text (Text release ∷ [])
    (λ t. record t { choice = filter (is_choice_elsewhere release) t.choice })
choices_dropped_in release =
    drops choice_view (is_choice_in release)
    (λ t. record t { choice = filter (is_choice_elsewhere release) t.choice })
    (λ t. refl) (λ t. search not_other) drop_choices_in_text ((0, Text release) ∷ [])
    drop_choices_in_reads refl (λ r. refl)
    (λ row. last_text_test row.release release)

-- ---- drop_conclusion

abbrev drop_conclusion_text : List ℕ
drop_conclusion_text = codes "DELETE FROM conclusion WHERE document = ?1 AND package = ?2"

drop_conclusion_reads : IsDrop drop_conclusion_text 2 6 10 (0 ∷ 1 ∷ [])
unfolding everything
drop_conclusion_reads = record {
  from = λ at not_null. (refl, refl, refl, refl);
  is = λ place at not_null. record { is = refl; plain = (refl, refl); suits = (refl, refl) };
}

pub conclusion_dropped : (document : ℕ) (package_id : List ℕ)
    → Makes drop_conclusion_text (number document ∷ Text package_id ∷ [])
    (λ t. record t {
      conclusion = filter (λ row. not (is_conclusion document package_id row))
          t.conclusion;
    })
conclusion_dropped document package_id =
    drops conclusion_view (is_conclusion document package_id)
    (λ t. record t {
      conclusion = filter (λ row. not (is_conclusion document package_id row))
          t.conclusion;
    }) (λ t. refl) (λ t. search not_other) drop_conclusion_text
    ((0, number document) ∷ (1, Text package_id) ∷ []) drop_conclusion_reads refl (λ r. refl)
    (λ row. number_then row.document document (last_text_test row.package_id package_id))

-- ---- drop_adoption

abbrev drop_adoption_text : List ℕ
drop_adoption_text = codes "DELETE FROM adoption WHERE document = ?1 AND reference = ?2"

drop_adoption_reads : IsDrop drop_adoption_text 2 7 12 (0 ∷ 1 ∷ [])
unfolding everything
drop_adoption_reads = record {
  from = λ at not_null. (refl, refl, refl, refl);
  is = λ place at not_null. record { is = refl; plain = (refl, refl); suits = (refl, refl) };
}

pub adoption_dropped : (document : ℕ) (reference : List ℕ)
    → Makes drop_adoption_text (number document ∷ Text reference ∷ [])
    (λ t. record t {
      adoption = filter (λ row. not (is_adoption document reference row))
          t.adoption;
    })
adoption_dropped document reference =
    drops adoption_view (is_adoption document reference)
    (λ t. record t {
      adoption = filter (λ row. not (is_adoption document reference row))
          t.adoption;
    }) (λ t. refl) (λ t. search not_other) drop_adoption_text
    ((0, number document) ∷ (1, Text reference) ∷ []) drop_adoption_reads refl (λ r. refl)
    (λ row. number_then row.document document (last_text_test row.reference reference))
