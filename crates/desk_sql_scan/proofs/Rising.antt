-- Rows that are held are in the order of their tables' keys, as they are when they are read.
use Rattle.std.proofs.Common.{◌≡◌, ℕ, pos, Bool, false, List, [], ◌∷◌, refl, sym, ap, ◌∙◌, arith, is_lt}
use Rattle.std.specs.Prelude.{◌&&◌, ◌||◌, ◌==◌, nat_lt}
use Rattle.std.specs.Cmp.{IsTotalOrder}
use Rattle.std.specs.Cmp.Lexicographic.{slice_cmp}
use Rattle.std.specs.Ordering.{nat_cmp, int_cmp}
use Rattle.std.specs.declared.cmp.Ordering.{Ordering}
use Rattle.std.proofs.lemmas.Bool.Decides.{nat_tests}
use Rattle.std.proofs.lemmas.Cmp.{on_total, then_total, nat_cmp_total, nat_list_cmp_total}
use Rattle.std.proofs.lemmas.Int.{ints}
use Rattle.sqlite_trees.specs.Tree.{IsAscending}
use Rattle.sqlite_trees.proofs.ListLemmas.{ascending_weaker}
use Rattle.desk_history.specs.Laws.{Ascends, Rises, rule_row_order}
use Rattle.desk_sql_layout.specs.Held.{package_below}
use Rattle.desk_sql_layout.proofs.Ties.{ascends}
use Rattle.desk_sql_layout.proofs.Keyed.{lower, two_lower}
use Rattle.desk_model.specs.Keys.{below_by, attached_order, choice_order, frozen_order, extracted_order}
use Rattle.desk_model.specs.Keys.{conclusion_order, adoption_order, change_below, release_below}
use Rattle.desk_model.specs.declared.row.AdoptionRow.{AdoptionRow}
use Rattle.desk_model.specs.declared.row.AttachedRow.{AttachedRow}
use Rattle.desk_model.specs.declared.row.ChangeRow.{ChangeRow}
use Rattle.desk_model.specs.declared.row.ChoiceRow.{ChoiceRow}
use Rattle.desk_model.specs.declared.row.ConclusionRow.{ConclusionRow}
use Rattle.desk_model.specs.declared.row.ExtractedRow.{ExtractedRow}
use Rattle.desk_model.specs.declared.row.FrozenRow.{FrozenRow}
use Rattle.desk_model.specs.declared.row.PackageRow.{PackageRow}
use Rattle.desk_model.specs.declared.row.ReleaseRow.{ReleaseRow}
use Rattle.desk_model.specs.declared.row.RuleRow.{RuleRow}
use Rattle.desk_model.proofs.Orders.{order_of}
use Rattle.desk_snapshot.specs.Orders as stored
use Rattle.desk_snapshot.specs.Tables.{rule_stored, package_stored, extracted_stored}
use Rattle.desk_snapshot.specs.Tables.{conclusion_stored, adoption_stored, release_stored}
use Rattle.desk_snapshot.specs.Tables.{attached_stored, choice_stored, frozen_stored, change_stored}
use Rattle.desk_sql_scan.specs.Orders as here

-- ---- numbers

whole : (a b : ℕ) → int_cmp (pos a) (pos b) ≡ nat_cmp a b
whole a b = grind (arith, ints, nat_tests)

-- ---- lists

in_order : {X : Type 0} (below : X → X → Bool) (cmp : X → X → Ordering) (xs : List X)
    → ((a b : X) → is_lt (cmp a b) ≡ below a b) → Ascends below xs
    → IsAscending (λ a b. is_lt (cmp b a) ≡ false) xs
in_order below cmp xs same up = ascending_weaker (λ a b. below b a ≡ false)
    (λ a b. is_lt (cmp b a) ≡ false) (λ a b h. same b a ∙ h) xs (ascends below xs up)

-- rows, each of which comes before those after it
falls : {X : Type 0} {order : X → X → Ordering} → IsTotalOrder order → (xs : List X)
    → Rises (below_by order) xs → Ascends (below_by order) xs
falls total [] up = tt
falls total (x ∷ xs) up = (λ y there. (order_of total).asym x y (up.0 y there), falls total xs up.1)

-- ---- tables

pub numbers_rise : {X : Type 0} (below : X → X → Bool) (number : X → ℕ)
    → ((a b : X) → below a b ≡ nat_lt (number a) (number b)) → (xs : List X) → Ascends below xs
    → IsAscending (λ a b. is_lt (int_cmp (pos (number b)) (pos (number a))) ≡ false) xs
numbers_rise below number same xs up = in_order below
    (λ a b. int_cmp (pos (number a)) (pos (number b))) xs
    (λ a b. ap is_lt (whole (number a) (number b)) ∙ lower (number a) (number b) ∙ sym (same a b))
    up

pub rules_rise : (rows : List RuleRow) → Rises (below_by rule_row_order) rows
    → IsAscending (λ a b. is_lt (here.rule_order (rule_stored b) (rule_stored a)) ≡ false) rows
rules_rise rows up =
    in_order (below_by rule_row_order) (λ a b. here.rule_order (rule_stored a) (rule_stored b)) rows
    (λ a b. rw (whole a.revision b.revision) refl)
    (falls (then_total (on_total (λ row. row.revision) nat_cmp_total)
    (then_total (on_total (λ row. row.term) nat_list_cmp_total)
    (on_total (λ row. row.form) nat_list_cmp_total))) rows up)

pub extracted_rise : (rows : List ExtractedRow) → Rises (below_by extracted_order) rows
    → IsAscending (λ a b. is_lt (here.extracted_order (extracted_stored b) (extracted_stored a))
    ≡ false) rows
extracted_rise rows up =
    in_order (below_by extracted_order)
    (λ a b. here.extracted_order (extracted_stored a) (extracted_stored b)) rows
    (λ a b. rw (whole a.document b.document) refl)
    (falls (then_total (on_total (λ row. row.document) nat_cmp_total)
    (on_total (λ row. row.reference) nat_list_cmp_total)) rows up)

pub packages_rise : (rows : List PackageRow) → Ascends package_below rows
    → IsAscending (λ a b. is_lt (stored.package_order (package_stored b) (package_stored a))
    ≡ false) rows
packages_rise rows up =
    in_order package_below (λ a b. stored.package_order (package_stored a) (package_stored b)) rows
    (λ a b. rw (whole a.document b.document)
    (two_lower a.document b.document (slice_cmp nat_cmp a.id b.id))) up

pub conclusions_rise : (rows : List ConclusionRow) → Ascends (below_by conclusion_order) rows
    → IsAscending (λ a b. is_lt (stored.conclusion_order (conclusion_stored b)
    (conclusion_stored a)) ≡ false) rows
conclusions_rise rows up =
    in_order (below_by conclusion_order)
    (λ a b. stored.conclusion_order (conclusion_stored a) (conclusion_stored b)) rows
    (λ a b. rw (whole a.document b.document) refl) up

pub adoptions_rise : (rows : List AdoptionRow) → Ascends (below_by adoption_order) rows
    → IsAscending (λ a b. is_lt (here.adoption_order (adoption_stored b) (adoption_stored a))
    ≡ false) rows
adoptions_rise rows up =
    in_order (below_by adoption_order)
    (λ a b. here.adoption_order (adoption_stored a) (adoption_stored b)) rows
    (λ a b. rw (whole a.document b.document) refl) up

pub releases_rise : (rows : List ReleaseRow) → Ascends release_below rows
    → IsAscending (λ a b. is_lt (stored.release_order (release_stored b) (release_stored a))
    ≡ false) rows
releases_rise rows up = in_order release_below
    (λ a b. stored.release_order (release_stored a) (release_stored b)) rows (λ a b. refl) up

pub attached_rise : (rows : List AttachedRow) → Ascends (below_by attached_order) rows
    → IsAscending (λ a b. is_lt (stored.attached_order (attached_stored b) (attached_stored a))
    ≡ false) rows
attached_rise rows up =
    in_order (below_by attached_order)
    (λ a b. stored.attached_order (attached_stored a) (attached_stored b)) rows
    (λ a b. rw (whole a.document b.document) refl) up

pub choices_rise : (rows : List ChoiceRow) → Ascends (below_by choice_order) rows
    → IsAscending (λ a b. is_lt (stored.choice_order (choice_stored b) (choice_stored a)) ≡ false)
    rows
choices_rise rows up =
    in_order (below_by choice_order)
    (λ a b. stored.choice_order (choice_stored a) (choice_stored b)) rows
    (λ a b. rw (whole a.document b.document) refl) up

pub frozen_rise : (rows : List FrozenRow) → Ascends (below_by frozen_order) rows
    → IsAscending (λ a b. is_lt (stored.frozen_order (frozen_stored b) (frozen_stored a)) ≡ false)
    rows
frozen_rise rows up =
    in_order (below_by frozen_order)
    (λ a b. stored.frozen_order (frozen_stored a) (frozen_stored b)) rows
    (λ a b. rw (whole a.document b.document) refl) up

pub changes_rise : (rows : List ChangeRow) → Ascends change_below rows
    → IsAscending (λ a b. is_lt (stored.change_order (change_stored b) (change_stored a)) ≡ false)
    rows
changes_rise rows up =
    in_order change_below (λ a b. stored.change_order (change_stored a) (change_stored b)) rows
    (λ a b. rw (whole a.duty b.duty, whole a.step b.step)
    (two_lower a.duty b.duty (nat_cmp a.step b.step)
    ∙ ap (λ c. nat_lt a.duty b.duty || ((a.duty == b.duty) && c)) (lower a.step b.step))) up
