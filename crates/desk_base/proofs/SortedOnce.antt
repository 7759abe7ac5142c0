-- Two strictly sorted lists of the same items are equal.
use Rattle.std.proofs.Common.{◌≡◌, ◌↔◌, ◌∙◌, inl, inr, zero, suc, List, [], ◌∷◌, get_or, sym, ap}
use Rattle.std.proofs.Common.{ap₂, refl, arith}
use Rattle.std.specs.Prelude.{Contains}
use Rattle.std.specs.List.Sorted.{IsStrictlySortedBy}
use Rattle.std.specs.Cmp.{IsTotalOrder}
use Rattle.std.specs.declared.cmp.Ordering.{Ordering}
use Rattle.std.specs.Ordering.{ordering_reverse}
use Rattle.std.specs.declared.cmp.Ordering.TheVariants.{Less}
use Rattle.std.proofs.lemmas.List.Elements.{recursion_from_All, All-from_get_or, Contains-get_or}
use Rattle.std.proofs.lemmas.Map.Keys.{Less-from_sorted, sorted_tail}
use Rattle.desk_base.proofs.Lists.{contains_cases}

pub is_head : {K : Type 0} (x : K) (xs : List K) → Contains (x ∷ xs) x
is_head x xs = (zero, omega arith, refl)

pub is_later : {K : Type 0} (x : K) (xs : List K) (q : K) → Contains xs q → Contains (x ∷ xs) q
is_later x xs q at = (suc at.0, omega (arith, at.1), at.2)

pub sorted_onto : {K : Type 0} (R : K → K → Ordering) (x : K) (xs : List K)
    → IsStrictlySortedBy R xs → ((y : K) → Contains xs y → R x y ≡ Less)
    → IsStrictlySortedBy R (x ∷ xs)
unfolding IsStrictlySortedBy
sorted_onto R x xs up below = (
  recursion_from_All (λ y. R x y ≡ Less) xs
      (All-from_get_or (λ y. R x y ≡ Less) xs x
      (λ i within. below (get_or xs i x) (Contains-get_or xs i x within))),
  up,
)

own_rank : (r : Ordering) → r ≡ ordering_reverse r → r ≡ Less → ⊥
own_rank r turned less = let e : Less ≡ ordering_reverse Less = sym less
    ∙ (turned ∙ ap ordering_reverse less) in cc

module _ {K : Type 0} (R : K → K → Ordering) (o : IsTotalOrder R) where
  pub not_below_own : (x : K) → R x x ≡ Less → ⊥
  not_below_own x less = own_rank (R x x) (o.antisymm x x) less

  pub not_both : (x y : K) → R x y ≡ Less → R y x ≡ Less → ⊥
  not_both x y a b = let turned : Less ≡ ordering_reverse Less = sym a
      ∙ (o.antisymm x y ∙ ap ordering_reverse b) in cc

  pub head_first : (x y : K) (xs : List K) → IsStrictlySortedBy R (x ∷ xs) → Contains xs y
      → R x y ≡ Less
  head_first x y xs up at =
      let less : R x (get_or xs at.0 y) ≡ Less =
      Less-from_sorted R (x ∷ xs) zero (suc at.0) y up (omega arith) (omega (arith, at.1)) in
      ap (R x) (sym at.2) ∙ less

  -- two strictly sorted lists of the same items are equal
  pub same_sorted : (a b : List K) → IsStrictlySortedBy R a → IsStrictlySortedBy R b
      → ((x : K) → Contains a x ↔ Contains b x) → a ≡ b
  same_sorted [] [] up up' same = refl
  same_sorted [] (y ∷ ys) up up' same = absurd (let at = (same y).1 (is_head y ys) in
      omega (arith, at.1))
  same_sorted (x ∷ xs) [] up up' same = absurd (let at = (same x).0 (is_head x xs) in
      omega (arith, at.1))
  same_sorted (x ∷ xs) (y ∷ ys) up up' same =
      let head : x ≡ y =
      elim (contains_cases y ys x ((same x).0 (is_head x xs))) [
        | inl is ↦ sym is
        | inr later ↦ elim (contains_cases x xs y ((same y).1 (is_head y ys))) [
          | inl is ↦ is
          | inr late ↦ absurd (not_both x y (head_first x y xs up late)
              (head_first y x ys up' later))
        ]
      ] in
      let tails : xs ≡ ys = same_sorted xs ys (sorted_tail R x xs up) (sorted_tail R y ys up')
      (λ t. (
        (λ at. elim (contains_cases y ys t ((same t).0 (is_later x xs t at))) [
          | inl is ↦ absurd (not_below_own t
              (ap (λ z. R z t) (sym is ∙ sym head) ∙ head_first x t xs up at))
          | inr later ↦ later
        ]),
        (λ at. elim (contains_cases x xs t ((same t).1 (is_later y ys t at))) [
          | inl is ↦ absurd (not_below_own t
              (ap (λ z. R z t) (sym is ∙ head) ∙ head_first y t ys up' at))
          | inr later ↦ later
        ]),
      )) in
      ap₂ (λ (z : K) (zs : List K). z ∷ zs) head tails
