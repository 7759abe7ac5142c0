-- What is in a list, and what is found in it.
use Rattle.std.proofs.Common.{◌≡◌, ℕ, ◌+◌, ◌<◌, ◌≤◌, Bool, true, false, cond, List, [], ◌∷◌}
use Rattle.std.proofs.Common.{length, Some, refl, ap, arith, inl, inr}
use Rattle.std.specs.Prelude.{◌&&◌, ◌==◌, filter, find, pos}
use Rattle.std.specs.List.{enumerate_from, AllByRecursion}
use Rattle.std.specs.Ordering.{int_eq}
use Rattle.std.proofs.lemmas.Bool.Decides.{nat_tests}
use Rattle.desk_model.specs.Lists.{IsIn}

pub pos_eq : (a b : ℕ) → int_eq (pos a) (pos b) ≡ (a == b)
pos_eq a b = grind (arith, nat_tests)

pub each_in : {A : Type 0} (P : A → Type 0) (xs : List A) → ((x : A) → IsIn x xs → P x)
    → AllByRecursion P xs
each_in P [] each = tt
each_in P (x ∷ xs) each = (each x (inl refl), each_in P xs (λ y m. each y (inr m)))

-- what is filtered

pub find_same : {A : Type 0} (test other : A → Bool) → ((x : A) → test x ≡ other x) → (xs : List A)
    → find test xs ≡ find other xs
find_same test other same [] = refl
find_same test other same (x ∷ xs) = rw (same x, find_same test other same xs) refl

pub find-filter : {A : Type 0} (test among : A → Bool) (xs : List A)
    → find test (filter among xs) ≡ find (λ x. among x && test x) xs
find-filter test among [] = refl
find-filter test among (x ∷ xs) =
    elim (among x) as (λ b. find test (cond b (x ∷ filter among xs) (filter among xs))
    ≡ cond (b && test x) (Some x) (find (λ x. among x && test x) xs)) [
      | true ↦ ap (λ o. cond (test x) (Some x) o) (find-filter test among xs)
      | false ↦ find-filter test among xs
    ]

-- what is numbered

pub in_numbers : {A : Type 0} (n : ℕ) (xs : List A) (d : ℕ × A) → IsIn d (enumerate_from n xs)
    → (n ≤ d.0) × (d.0 < n + length xs) × IsIn d.1 xs
in_numbers n [] d m = absurd m
in_numbers {A} n (x ∷ xs) d m =
    elim m [
      | inl same ↦ (let at : n ≡ d.0 = ap (λ (e : ℕ × A). e.0) same in
          (omega arith, omega arith, inl (ap (λ (e : ℕ × A). e.1) same)))
      | inr later ↦ (let at = in_numbers (n + 1) xs d later in
          (omega (arith, at.0), omega (arith, at.1), inr at.2))
    ]

-- a numbered item is found by its number
pub at_own : {A : Type 0} (n : ℕ) (xs : List A) (d : ℕ × A) → IsIn d (enumerate_from n xs)
    → find (λ (e : ℕ × A). e.0 == d.0) (enumerate_from n xs) ≡ Some d
at_own n [] d m = absurd m
at_own {A} n (x ∷ xs) d m =
    elim m [
      | inl same ↦ (let at : (n == d.0) ≡ true =
          (let e : n ≡ d.0 = ap (λ (e : ℕ × A). e.0) same in grind (arith, nat_tests)) in
          rw at (ap (λ (e : ℕ × A). Some e) same))
      | inr later ↦ (let at = in_numbers (n + 1) xs d later in
          let other : (n == d.0) ≡ false =
          (let less : n + 1 ≤ d.0 = at.0 in grind (arith, nat_tests)) in
          rw other (at_own (n + 1) xs d later))
    ]
