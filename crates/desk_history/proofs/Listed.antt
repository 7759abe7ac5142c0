-- Tables that are in the order in which the reading lists them.
use Rattle.std.proofs.Common.{◌≡◌, ℕ, ◌+◌, ◌≤◌, Bool, List, [], ◌∷◌, ◌++◌, length, map, sym, refl}
use Rattle.std.proofs.Common.{ap, subst, arith, length-append, inl, inr, Option, Some, None}
use Rattle.std.specs.Prelude.{Result, Ok, Err}
use Rattle.std.specs.Result.{result_ok}
use Rattle.std.specs.Ordering.{nat_cmp, on, then_cmp}
use Rattle.std.specs.declared.cmp.Ordering.{Ordering}
use Rattle.std.specs.Cmp.Lexicographic.{slice_cmp}
use Rattle.std.proofs.lemmas.Cmp.{nat_cmp_total, tied_itself}
use Rattle.desk_model.specs.Lists.{IsIn}
use Rattle.desk_model.specs.Readings.{Readings}
use Rattle.desk_model.specs.Keys.{below_by, rule_order, package_order, extracted_order}
use Rattle.desk_model.specs.History.{revisions, rules_in, rule_row, rule_rows, documents, packages}
use Rattle.desk_model.specs.History.{packages_in, package_row, references, references_in}
use Rattle.desk_model.specs.History.{extracted_row, namespace_in}
use Rattle.desk_model.specs.Tables.{tables}
use Rattle.desk_history.specs.Laws.{Rises, ListsInOrder, AreSortedAsListed, rule_row_order}
use Rattle.desk_history.specs.Laws.{package_below, reference_below}
use Rattle.desk_history.proofs.Members.{in_cases, from_map}
use Rattle.desk_history.proofs.Rising.{smaller, first_less, rest_less, rises-append, rises-map}
use Rattle.desk_model.specs.declared.row.ExtractedRow.{ExtractedRow}
use Rattle.desk_model.specs.declared.row.PackageRow.{PackageRow}
use Rattle.desk_model.specs.declared.row.RuleRow.{RuleRow}
use Rattle.desk_model.specs.declared.command.Command.{Command}
use Rattle.desk_model.specs.declared.command.Command.TheVariants.{LoadCatalogue, Import}

-- What is read, and rows numbered by where they were read, after those read before

rises_read : {A B E : Type 0} (below : B → B → Bool) (rows : Option A → List B) (read : Result A E)
    → Rises below (rows None) → ((x : A) → read ≡ Ok x → Rises below (rows (Some x)))
    → Rises below (rows (result_ok read))
rises_read below rows (Ok x) none each = each x refl
rises_read below rows (Err fault) none each = none

within_next : {A B : Type 0} (number : B → ℕ) (row : A → B) (n : ℕ) (xs : List B) (ys : List A)
    → ((y : A) → number (row y) ≡ n + 1) → ((x : B) → IsIn x xs → number x ≤ n)
    → (x : B) → IsIn x (xs ++ map row ys) → number x ≤ n + 1
within_next number row n xs ys own old x m = elim (in_cases x xs (map row ys) m) [
  | inl before ↦ omega (arith, old x before)
  | inr new ↦ (let at = from_map row x ys new in omega (arith, ap number at.2, own at.0))
]

rising_next : {A B : Type 0} (number : B → ℕ) (rest : B → B → Ordering) (row : A → B) (n : ℕ)
    (xs : List B) (ys : List A) → ((y : A) → number (row y) ≡ n + 1)
    → ((x : B) → IsIn x xs → number x ≤ n)
    → Rises (below_by (then_cmp (on number nat_cmp) rest)) xs
    → Rises (λ a b. below_by rest (row a) (row b)) ys
    → Rises (below_by (then_cmp (on number nat_cmp) rest)) (xs ++ map row ys)
rising_next number rest row n xs ys own old up more =
    let order = then_cmp (on number nat_cmp) rest in
    rises-append (below_by order) xs (map row ys) up
    (rises-map row (λ a b. below_by rest (row a) (row b)) (below_by order)
    (λ a b e. rest_less (nat_cmp (number (row a)) (number (row b))) (rest (row a) (row b))
    (rw (own a, own b) (tied_itself nat_cmp_total (n + 1))) e) ys more)
    (λ a b m k. let at = from_map row b ys k in
    first_less (nat_cmp (number a) (number b)) (rest a b)
    (smaller (number a) (number b) (omega (arith, old a m, ap number at.2, own at.0))))

-- Rules

pub next_revision : (h : List Command) (text : List ℕ)
    → length (revisions (LoadCatalogue text ∷ h)) ≡ length (revisions h) + 1
next_revision h text = length-append (revisions h)
    (record { revision = length (revisions h) + 1; body = text } ∷ [])

pub of_revision : (w : Readings) (h : List Command) (row : RuleRow) → IsIn row (rule_rows w h)
    → row.revision ≤ length (revisions h)
of_revision w [] row m = absurd m
of_revision w (LoadCatalogue text ∷ h) row m =
    let n = length (revisions h) in
    subst (λ k. row.revision ≤ k) (sym (next_revision h text))
    (within_next (λ (row : RuleRow). row.revision) (rule_row (n + 1)) n (rule_rows w h)
    (rules_in (result_ok (w.catalogue text))) (λ r. refl) (of_revision w h) row m)
of_revision w (c ∷ h) row m = of_revision w h row m

pub rising_rules : (w : Readings) → ListsInOrder w → (h : List Command)
    → Rises (below_by rule_row_order) (rule_rows w h)
rising_rules w in_order [] = tt
rising_rules w in_order (LoadCatalogue text ∷ h) =
    let n = length (revisions h) in
    rising_next (λ (row : RuleRow). row.revision)
    (then_cmp (on (λ row. row.term) (slice_cmp nat_cmp)) (on (λ row. row.form) (slice_cmp nat_cmp)))
    (rule_row (n + 1)) n (rule_rows w h) (rules_in (result_ok (w.catalogue text))) (λ r. refl)
    (of_revision w h) (rising_rules w in_order h)
    (rises_read (below_by rule_order) rules_in (w.catalogue text) tt (in_order.rules text))
rising_rules w in_order (c ∷ h) = rising_rules w in_order h

-- Packages and references

next_document : (w : Readings) (h : List Command) (bytes : List ℕ) (profile : _)
    → length (documents w (Import bytes profile ∷ h)) ≡ length (documents w h) + 1
next_document w h bytes profile = length-append (documents w h)
    (record {
      number = length (documents w h) + 1;
      namespace = namespace_in (result_ok (w.document bytes));
      bytes = bytes;
      profile = profile;
    } ∷ [])

pub of_document : (w : Readings) (h : List Command) (row : PackageRow) → IsIn row (packages w h)
    → row.document ≤ length (documents w h)
of_document w [] row m = absurd m
of_document w (Import bytes profile ∷ h) row m =
    let n = length (documents w h) in
    subst (λ k. row.document ≤ k) (sym (next_document w h bytes profile))
    (within_next (λ (row : PackageRow). row.document) (package_row (n + 1)) n (packages w h)
    (packages_in (result_ok (w.document bytes))) (λ p. refl) (of_document w h) row m)
of_document w (c ∷ h) row m = of_document w h row m

pub rising_packages : (w : Readings) → ListsInOrder w → (h : List Command)
    → Rises (below_by package_order) (packages w h)
rising_packages w in_order [] = tt
rising_packages w in_order (Import bytes profile ∷ h) =
    let n = length (documents w h) in
    rising_next (λ (row : PackageRow). row.document) (on (λ row. row.id) (slice_cmp nat_cmp))
    (package_row (n + 1)) n (packages w h) (packages_in (result_ok (w.document bytes)))
    (λ p. refl) (of_document w h) (rising_packages w in_order h)
    (rises_read package_below packages_in (w.document bytes) tt (in_order.packages bytes))
rising_packages w in_order (c ∷ h) = rising_packages w in_order h

pub defined_by : (w : Readings) (h : List Command) (row : ExtractedRow) → IsIn row (references w h)
    → row.document ≤ length (documents w h)
defined_by w [] row m = absurd m
defined_by w (Import bytes profile ∷ h) row m =
    let n = length (documents w h) in
    subst (λ k. row.document ≤ k) (sym (next_document w h bytes profile))
    (within_next (λ (row : ExtractedRow). row.document) (extracted_row (n + 1)) n (references w h)
    (references_in (result_ok (w.document bytes))) (λ r. refl) (defined_by w h) row m)
defined_by w (c ∷ h) row m = defined_by w h row m

rising_references : (w : Readings) → ListsInOrder w → (h : List Command)
    → Rises (below_by extracted_order) (references w h)
rising_references w in_order [] = tt
rising_references w in_order (Import bytes profile ∷ h) =
    let n = length (documents w h) in
    rising_next (λ (row : ExtractedRow). row.document)
    (on (λ row. row.reference) (slice_cmp nat_cmp)) (extracted_row (n + 1)) n (references w h)
    (references_in (result_ok (w.document bytes))) (λ r. refl) (defined_by w h)
    (rising_references w in_order h)
    (rises_read reference_below references_in (w.document bytes) tt (in_order.references bytes))
rising_references w in_order (c ∷ h) = rising_references w in_order h

pub sorted_as_listed : (w : Readings) (h : List Command) → ListsInOrder w
    → AreSortedAsListed (tables w h)
sorted_as_listed w h in_order = record {
  rule = rising_rules w in_order h;
  packages = rising_packages w in_order h;
  extracted = rising_references w in_order h;
}
