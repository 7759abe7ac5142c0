-- The orders of the tables, and tests for their keys.
use Rattle.std.proofs.Common.{◌≡◌, ℕ, pos, Bool, false, List, [], ◌∷◌, refl, ap, ◌∙◌, arith, is_lt}
use Rattle.std.specs.Prelude.{◌&&◌, ◌||◌, ◌==◌, nat_lt}
use Rattle.std.specs.Ordering.{nat_cmp, int_cmp, ordering_then}
use Rattle.std.specs.Cmp.Lexicographic.{slice_cmp}
use Rattle.std.specs.declared.cmp.Ordering.{Ordering}
use Rattle.std.proofs.lemmas.Bool.Decides.{nat_tests}
use Rattle.std.proofs.lemmas.Int.{ints}
use Rattle.sqlite_value.specs.declared.value.Value.TheVariants.{Text}
use Rattle.sqlite_value.specs.Order.{Row, value_cmp}
use Rattle.sqlite_value.proofs.OrderLemmas.{value_cmp-Int, value_cmp-Text, then-Equal}
use Rattle.sqlite_trees.specs.Tree.{IsAscending}
use Rattle.sqlite_trees.proofs.ListLemmas.{ascending_weaker}
use Rattle.sqlite_sql.specs.Query.{key_cmp}
use Rattle.desk_history.specs.Laws.{Ascends, document_below, duty_below}
use Rattle.desk_model.specs.Keys.{below_by, adoption_order, attached_order, choice_order}
use Rattle.desk_model.specs.Keys.{conclusion_order, frozen_order, change_below, release_below}
use Rattle.desk_model.specs.declared.row.AdoptionRow.{AdoptionRow}
use Rattle.desk_model.specs.declared.row.AttachedRow.{AttachedRow}
use Rattle.desk_model.specs.declared.row.ChoiceRow.{ChoiceRow}
use Rattle.desk_model.specs.declared.row.ConclusionRow.{ConclusionRow}
use Rattle.desk_model.specs.declared.row.ChangeRow.{ChangeRow}
use Rattle.desk_model.specs.declared.row.DocumentRow.{DocumentRow}
use Rattle.desk_model.specs.declared.row.DutyRow.{DutyRow}
use Rattle.desk_model.specs.declared.row.FrozenRow.{FrozenRow}
use Rattle.desk_model.specs.declared.row.PackageRow.{PackageRow}
use Rattle.desk_model.specs.declared.row.ReleaseRow.{ReleaseRow}
use Rattle.desk_sql_layout.specs.Cells.{number}
use Rattle.desk_sql_layout.specs.Held.{package_below}
use Rattle.desk_sql_layout.proofs.Ties.{keys, ascends}

-- ---- tests

-- ---- orders

pub numbers : (a b : ℕ) → value_cmp (number a) (number b) ≡ nat_cmp a b
numbers a b = value_cmp-Int (pos a) (pos b) ∙ go
  where
    go : int_cmp (pos a) (pos b) ≡ nat_cmp a b
    go = grind (arith, ints, nat_tests)

pub lower : (a b : ℕ) → is_lt (nat_cmp a b) ≡ nat_lt a b
lower a b = grind (arith, nat_tests)

-- rows by their values of these columns
abbrev pub AreInOrder : {X : Type 0} → List ℕ → (X → Row) → List X → Type 0
AreInOrder ps values xs =
    IsAscending (λ a b. is_lt (key_cmp 0 (keys ps) (values b) (values a)) ≡ false) xs

in_order : {X : Type 0} (ps : List ℕ) (values : X → Row) (below : X → X → Bool) (xs : List X)
    → ((a b : X) → is_lt (key_cmp 0 (keys ps) (values a) (values b)) ≡ below a b)
    → Ascends below xs → AreInOrder ps values xs
in_order ps values below xs same up =
    ascending_weaker (λ a b. below b a ≡ false)
    (λ a b. is_lt (key_cmp 0 (keys ps) (values b) (values a)) ≡ false) (λ a b h. same b a ∙ h) xs
    (ascends below xs up)

by_number : (a b : ℕ) → is_lt (key_cmp 0 (keys (0 ∷ [])) (number a ∷ []) (number b ∷ []))
    ≡ nat_lt a b
by_number a b = ap is_lt (then-Equal (value_cmp (number a) (number b)) ∙ numbers a b) ∙ lower a b

by_number_and_text : (a b : ℕ) (s t : List ℕ)
    → key_cmp 0 (keys (1 ∷ 2 ∷ [])) (number a ∷ Text s ∷ []) (number b ∷ Text t ∷ [])
    ≡ ordering_then (nat_cmp a b) (slice_cmp nat_cmp s t)
by_number_and_text a b s t =
    rw (numbers a b, value_cmp-Text s t, then-Equal (slice_cmp nat_cmp s t)) refl

-- the terms of packages in releases
by_term : (r s : List ℕ) (a b : ℕ) (p q t u : List ℕ)
    → key_cmp 0 (keys (1 ∷ 2 ∷ 3 ∷ 4 ∷ [])) (Text r ∷ number a ∷ Text p ∷ Text t ∷ [])
    (Text s ∷ number b ∷ Text q ∷ Text u ∷ [])
    ≡ ordering_then (slice_cmp nat_cmp r s) (ordering_then (nat_cmp a b)
    (ordering_then (slice_cmp nat_cmp p q) (slice_cmp nat_cmp t u)))
by_term r s a b p q t u = rw (
  value_cmp-Text r s,
  numbers a b,
  value_cmp-Text p q,
  value_cmp-Text t u,
  then-Equal (slice_cmp nat_cmp t u),
) refl

pub duties_sorted : (rows : List DutyRow) → Ascends duty_below rows
    → AreInOrder (0 ∷ []) (λ row. number row.number ∷ []) rows
duties_sorted rows = in_order (0 ∷ []) (λ (row : DutyRow). number row.number ∷ []) duty_below rows
    (λ a b. by_number a.number b.number)

pub documents_sorted : (rows : List DocumentRow) → Ascends document_below rows
    → AreInOrder (0 ∷ []) (λ row. number row.number ∷ []) rows
documents_sorted rows =
    in_order (0 ∷ []) (λ (row : DocumentRow). number row.number ∷ []) document_below rows
    (λ a b. by_number a.number b.number)

pub two_lower : (a b : ℕ) (o : Ordering)
    → is_lt (ordering_then (nat_cmp a b) o) ≡ (nat_lt a b || ((a == b) && is_lt o))
two_lower a b o = grind (arith, nat_tests)

pub changes_sorted : (rows : List ChangeRow) → Ascends change_below rows
    → AreInOrder (1 ∷ 2 ∷ []) (λ row. number row.duty ∷ number row.step ∷ []) rows
changes_sorted rows =
    in_order (1 ∷ 2 ∷ []) (λ (row : ChangeRow). number row.duty ∷ number row.step ∷ [])
    change_below rows
    (λ a b. rw (numbers a.duty b.duty, numbers a.step b.step, then-Equal (nat_cmp a.step b.step))
    (two_lower a.duty b.duty (nat_cmp a.step b.step)
    ∙ ap (λ c. nat_lt a.duty b.duty || ((a.duty == b.duty) && c)) (lower a.step b.step)))

pub packages_sorted : (rows : List PackageRow) → Ascends package_below rows
    → AreInOrder (1 ∷ 2 ∷ []) (λ row. number row.document ∷ Text row.id ∷ []) rows
packages_sorted rows =
    in_order (1 ∷ 2 ∷ []) (λ (row : PackageRow). number row.document ∷ Text row.id ∷ [])
    package_below rows
    (λ a b. ap is_lt (by_number_and_text a.document b.document a.id b.id)
    ∙ two_lower a.document b.document (slice_cmp nat_cmp a.id b.id))

pub conclusions_sorted : (rows : List ConclusionRow) → Ascends (below_by conclusion_order) rows
    → AreInOrder (1 ∷ 2 ∷ []) (λ row. number row.document ∷ Text row.package_id ∷ []) rows
conclusions_sorted rows =
    in_order (1 ∷ 2 ∷ []) (λ (row : ConclusionRow). number row.document ∷ Text row.package_id ∷ [])
    (below_by conclusion_order) rows
    (λ a b. ap is_lt (by_number_and_text a.document b.document a.package_id b.package_id))

pub adoptions_sorted : (rows : List AdoptionRow) → Ascends (below_by adoption_order) rows
    → AreInOrder (1 ∷ 2 ∷ []) (λ row. number row.document ∷ Text row.reference ∷ []) rows
adoptions_sorted rows =
    in_order (1 ∷ 2 ∷ []) (λ (row : AdoptionRow). number row.document ∷ Text row.reference ∷ [])
    (below_by adoption_order) rows
    (λ a b. ap is_lt (by_number_and_text a.document b.document a.reference b.reference))

pub attached_sorted : (rows : List AttachedRow) → Ascends (below_by attached_order) rows
    → AreInOrder (1 ∷ 2 ∷ []) (λ row. Text row.release ∷ number row.document ∷ []) rows
attached_sorted rows =
    in_order (1 ∷ 2 ∷ []) (λ (row : AttachedRow). Text row.release ∷ number row.document ∷ [])
    (below_by attached_order) rows
    (λ a b. rw (
      value_cmp-Text a.release b.release,
      numbers a.document b.document,
      then-Equal (nat_cmp a.document b.document),
    ) refl)

pub choices_sorted : (rows : List ChoiceRow) → Ascends (below_by choice_order) rows
    → AreInOrder (1 ∷ 2 ∷ 3 ∷ 4 ∷ [])
    (λ row. Text row.release ∷ number row.document ∷ Text row.package_id ∷ Text row.term ∷ []) rows
choices_sorted rows = in_order (1 ∷ 2 ∷ 3 ∷ 4 ∷ []) (λ (row : ChoiceRow).
    Text row.release ∷ number row.document ∷ Text row.package_id ∷ Text row.term ∷ [])
    (below_by choice_order) rows
    (λ a b. ap is_lt (by_term a.release b.release a.document b.document a.package_id b.package_id
    a.term b.term))

pub frozen_sorted : (rows : List FrozenRow) → Ascends (below_by frozen_order) rows
    → AreInOrder (1 ∷ 2 ∷ 3 ∷ 4 ∷ [])
    (λ row. Text row.release ∷ number row.document ∷ Text row.package_id ∷ Text row.term ∷ []) rows
frozen_sorted rows = in_order (1 ∷ 2 ∷ 3 ∷ 4 ∷ []) (λ (row : FrozenRow).
    Text row.release ∷ number row.document ∷ Text row.package_id ∷ Text row.term ∷ [])
    (below_by frozen_order) rows
    (λ a b. ap is_lt (by_term a.release b.release a.document b.document a.package_id b.package_id
    a.term b.term))

pub releases_sorted : (rows : List ReleaseRow) → Ascends release_below rows
    → AreInOrder (1 ∷ []) (λ row. Text row.name ∷ []) rows
releases_sorted rows =
    in_order (1 ∷ []) (λ (row : ReleaseRow). Text row.name ∷ []) release_below rows
    (λ a b. rw (value_cmp-Text a.name b.name, then-Equal (slice_cmp nat_cmp a.name b.name)) refl)
