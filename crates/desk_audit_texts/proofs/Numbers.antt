-- The numbers from 1, in order.
use Rattle.std.proofs.Common.{◌≡◌, ◌∙◌, ℕ, zero, suc, ◌+◌, ◌<◌, ℤ, pos, Bool, List, [], ◌∷◌, map}
use Rattle.std.proofs.Common.{length, get_or, ap, ap₂, refl, sym, subst, arith}
use Rattle.std.specs.List.{range_with_len}
use Rattle.std.specs.Bool.{Decides}
use Rattle.std.specs.Cmp.{int_cmp_is}
use Rattle.std.specs.List.Sorted.{IsPermutation, IsSorted}
use Rattle.std.specs.Ordering.{int_cmp, is_lt}
use Rattle.std.specs.declared.cmp.Ordering.TheVariants.{Greater}
use Rattle.std.proofs.lemmas.Int.{ints}
use Rattle.std.proofs.lemmas.List.Sorted.{IsPermutation-sym, IsPermutation-trans, length_permutation}
use Rattle.std.proofs.lemmas.List.FromFn.{get_or-map-range_with_len, length-map-range_with_len}
use Rattle.desk_snapshot.specs.Conditions.{numbers_to}
use Rattle.desk_audit_texts.proofs.Sorted.{sorted_once}

-- each number from a first one is at its place
counted_from : (a : ℕ) (xs : List ℤ)
    → ((k : ℕ) (d : ℤ) → k < length xs → get_or xs k d ≡ pos (k + a))
    → xs ≡ map pos (range_with_len a (length xs))
counted_from a [] at = refl
counted_from a (x ∷ xs) at =
    ap₂ (λ (y : ℤ) (ys : List ℤ). y ∷ ys) (at zero x (omega arith) ∙ ap pos (omega arith))
    (counted_from (a + 1) xs (λ k d within. at (suc k) d (omega arith) ∙ ap pos (omega arith)))

pub counted : (xs : List ℤ) → ((k : ℕ) (d : ℤ) → k < length xs → get_or xs k d ≡ pos (k + 1))
    → xs ≡ numbers_to (length xs)
counted = counted_from 1

pub number_at : (n k : ℕ) (d : ℤ) → k < n → get_or (numbers_to n) k d ≡ pos (k + 1)
number_at n k d within = get_or-map-range_with_len pos 1 n k (k + 1) d within (omega arith)

pub numbers_sorted : (n : ℕ) → IsSorted int_cmp (numbers_to n)
numbers_sorted n = λ k d low within.
    let inside : k + 1 < n = (let len = length-map-range_with_len pos 1 n in
    omega (arith, within, len)) in
    let here : get_or (numbers_to n) k d ≡ pos (k + 1) = number_at n k d (omega arith) in
    let next : get_or (numbers_to n) (k + 1) d ≡ pos (k + 1 + 1) = number_at n (k + 1) d inside in
    rw (
      here,
      next,
    ) (sym (ap is_lt (int_cmp_is (pos (k + 1 + 1)) (pos (k + 1)) Greater (omega (arith, ints)))))

-- numbers are 1 to n in any order if and only if, once sorted, they are 1 to n in order
pub sorted_to : (numbers sorted : List ℤ) (n : ℕ) → length numbers ≡ n
    → IsPermutation numbers sorted → IsSorted int_cmp sorted
    → (is : Bool) → Decides is (sorted ≡ numbers_to (length sorted))
    → Decides is (IsPermutation (numbers_to n) numbers)
sorted_to numbers sorted n len same up is told =
    let size : length sorted ≡ n = length_permutation numbers sorted same ∙ len in (
      (λ e. subst (λ l. IsPermutation l numbers) (told.0 e ∙ ap numbers_to size)
          (IsPermutation-sym numbers sorted same)),
      (λ whole.
          let are : numbers_to n ≡ sorted =
          sorted_once (numbers_to n) sorted (numbers_sorted n) up
          (IsPermutation-trans (numbers_to n) numbers sorted whole same) in
          told.1 (sym are ∙ ap numbers_to (sym size))),
    )
