-- Numbers past the last one.
use Rattle.std.proofs.Common.{◌≡◌, ℕ, ◌+◌, ◌≤◌, Bool, true, List, [], ◌∷◌, map, filter, length, refl, ap, arith, min}
use Rattle.std.specs.Prelude.{◌&&◌, ◌==◌, nat_le, bytes_eq}
use Rattle.std.specs.List.{list_all}
use Rattle.std.proofs.lemmas.Bool.{and_parts}
use Rattle.std.proofs.lemmas.Bool.Decides.{nat_tests}
use Rattle.desk_sql_layout.specs.Held.{AreOrderly, AreNumbered}
use Rattle.desk_model.specs.Keys.{is_document, is_duty, is_change_of, is_package, is_revision}
use Rattle.desk_model.specs.Tables.{Tables}

same_among : (m n count : ℕ) → nat_le m count ≡ true → (m == min n (count + 1)) ≡ (m == n)
same_among m n count low = grind (arith, nat_tests)

filter_alike : {X : Type 0} (p q r : X → Bool) (xs : List X) → ((x : X) → r x ≡ true → p x ≡ q x)
    → list_all r xs ≡ true → filter p xs ≡ filter q xs
filter_alike p q r [] same all = refl
filter_alike {X} p q r (x ∷ xs) same all = let a = and_parts (r x) (list_all r xs) all in
    rw (same x a.0, filter_alike p q r xs same a.1) refl

numbered_within : {X : Type 0} (f : X → ℕ) (n count : ℕ) (xs : List X) → AreNumbered n (map f xs)
    → n + length xs ≤ count + 1 → list_all (λ x. nat_le (f x) count) xs ≡ true
numbered_within f n count [] are low = refl
numbered_within f n count (x ∷ xs) are low =
    let first : nat_le (f x) count ≡ true = (let e = are.0 in grind (arith, nat_tests)) in
    rw (first, numbered_within f (n + 1) count xs are.1 (omega (arith, low))) refl

pub duty_among : (n count : ℕ) (t : Tables) → AreOrderly t → length t.duty ≡ count
    → filter (is_duty (min n (count + 1))) t.duty ≡ filter (is_duty n) t.duty
duty_among n count t are is =
    filter_alike (is_duty (min n (count + 1))) (is_duty n) (λ row. nat_le row.number count) t.duty
    (λ row low. same_among row.number n count low)
    (numbered_within (λ row. row.number) 1 count t.duty are.duties (omega (arith, is)))

pub document_among : (n count : ℕ) (t : Tables) → AreOrderly t → length t.document ≡ count
    → filter (is_document (min n (count + 1))) t.document ≡ filter (is_document n) t.document
document_among n count t are is =
    filter_alike (is_document (min n (count + 1))) (is_document n) (λ row. nat_le row.number count)
    t.document (λ row low. same_among row.number n count low)
    (numbered_within (λ row. row.number) 1 count t.document are.documents (omega (arith, is)))

pub revision_among : (n count : ℕ) (t : Tables) → AreOrderly t → length t.catalogue ≡ count
    → filter (is_revision (min n (count + 1))) t.catalogue ≡ filter (is_revision n) t.catalogue
revision_among n count t are is =
    filter_alike (is_revision (min n (count + 1))) (is_revision n)
    (λ row. nat_le row.revision count) t.catalogue (λ row low. same_among row.revision n count low)
    (numbered_within (λ row. row.revision) 1 count t.catalogue are.revisions (omega (arith, is)))

pub changes_among : (n count : ℕ) (t : Tables) → AreOrderly t → length t.duty ≡ count
    → filter (is_change_of (min n (count + 1))) t.changes ≡ filter (is_change_of n) t.changes
changes_among n count t are is = filter_alike (is_change_of (min n (count + 1))) (is_change_of n)
    (λ row. nat_le row.duty count) t.changes (λ row low. same_among row.duty n count low)
    (rw is at are.of_duties)

pub package_among : (n count : ℕ) (id : List ℕ) (t : Tables) → AreOrderly t
    → length t.document ≡ count → filter (is_package (min n (count + 1)) id) t.packages
    ≡ filter (is_package n id) t.packages
package_among n count id t are is =
    filter_alike (is_package (min n (count + 1)) id) (is_package n id)
    (λ row. nat_le row.document count) t.packages
    (λ row low. ap (λ b. b && bytes_eq row.id id) (same_among row.document n count low))
    (rw is at are.of_documents)
