-- A list has one order by a total order that distinguishes all items.
use Rattle.std.proofs.Common.{◌≡◌, ◌∙◌, ℕ, zero, suc, ◌+◌, ◌<◌, Bool, true, false, List, [], ◌∷◌}
use Rattle.std.proofs.Common.{length, sym, subst, ap, refl, arith}
use Rattle.std.specs.Prelude.{if◌then◌else◌, slice_index_or}
use Rattle.std.specs.Cmp.{IsTotalOrder, upto}
use Rattle.std.specs.Ordering.{is_lt, is_gt, is_eq, ordering_reverse}
use Rattle.std.specs.declared.cmp.Ordering.{Ordering}
use Rattle.std.specs.declared.cmp.Ordering.TheVariants.{Less, Equal, Greater}
use Rattle.std.specs.List.Sorted.{IsPermutation, IsSorted}
use Rattle.std.proofs.lemmas.List.Sorted.{IsPermutation-refl, IsPermutation-trans}
use Rattle.std.proofs.lemmas.List.Sorted.{IsPermutation-cons, IsPermutation-insert}

reverse_gt : (r : Ordering) → is_gt r ≡ true → is_gt (ordering_reverse r) ≡ false
reverse_gt Less is = cc
reverse_gt Equal is = cc
reverse_gt Greater is = refl

reverse_lt : (r : Ordering) → is_lt (ordering_reverse r) ≡ is_gt r
reverse_lt Less = refl
reverse_lt Equal = refl
reverse_lt Greater = refl

module _ {X : Type 0} (R : X → X → Ordering) (total : IsTotalOrder R) where
  abbrev UpTo : X → X → Type 0
  UpTo x y = is_gt (R x y) ≡ false

  -- it is up to each of these
  abbrev EachFrom : X → List X → Type 0
  EachFrom x [] = Unit {0}
  EachFrom x (y ∷ ys) = UpTo x y × EachFrom x ys

  abbrev Ascends : List X → Type 0
  Ascends [] = Unit {0}
  Ascends (x ∷ xs) = EachFrom x xs × Ascends xs

  abbrev put : X → List X → List X
  put x [] = x ∷ []
  put x (y ∷ ys) = if is_gt (R x y) then y ∷ put x ys else x ∷ y ∷ ys

  abbrev sort : List X → List X
  sort [] = []
  sort (x ∷ xs) = put x (sort xs)

  turned : (x y : X) → is_gt (R x y) ≡ true → UpTo y x
  turned x y after = ap is_gt (total.antisymm y x) ∙ reverse_gt (R x y) after

  from_all : (x y : X) → UpTo x y → (ys : List X) → EachFrom y ys → EachFrom x ys
  from_all x y up [] each = tt
  from_all x y up (z ∷ ys) each = (upto total x y z up each.0, from_all x y up ys each.1)

  from_put : (x y : X) → UpTo x y → (ys : List X) → EachFrom x ys → EachFrom x (put y ys)
  from_put x y up [] each = (up, tt)
  from_put x y up (z ∷ ys) each =
      elim (is_gt (R y z)) as (λ b. EachFrom x (if b then z ∷ put y ys else y ∷ z ∷ ys)) [
        | true ↦ (each.0, from_put x y up ys each.1)
        | false ↦ (up, each)
      ]

  put_by_test : (x y : X) (ys : List X) (b : Bool) → is_gt (R x y) ≡ b → Ascends (y ∷ ys)
      → Ascends (put x ys) → Ascends (if b then y ∷ put x ys else x ∷ y ∷ ys)
  put_by_test x y ys true after up rest = (from_put y x (turned x y after) ys up.0, rest)
  put_by_test x y ys false before up rest = ((before, from_all x y before ys up.0), up)

  put_ascends : (x : X) (ys : List X) → Ascends ys → Ascends (put x ys)
  put_ascends x [] up = (tt, tt)
  put_ascends x (y ∷ ys) up = put_by_test x y ys (is_gt (R x y)) refl up (put_ascends x ys up.1)

  sort_ascends : (xs : List X) → Ascends (sort xs)
  sort_ascends [] = tt
  sort_ascends (x ∷ xs) = put_ascends x (sort xs) (sort_ascends xs)

  put_permutes : (x : X) (ys : List X) → IsPermutation (x ∷ ys) (put x ys)
  put_permutes x [] = IsPermutation-refl (x ∷ [])
  put_permutes x (y ∷ ys) =
      elim (is_gt (R x y)) as (λ b. IsPermutation (x ∷ y ∷ ys)
      (if b then y ∷ put x ys else x ∷ y ∷ ys)) [
        | true ↦ IsPermutation-trans (x ∷ y ∷ ys) (y ∷ x ∷ ys) (y ∷ put x ys)
            (IsPermutation-insert (y ∷ ys) 1 x)
            (IsPermutation-cons y (x ∷ ys) (put x ys) (put_permutes x ys))
        | false ↦ IsPermutation-refl (x ∷ y ∷ ys)
      ]

  sort_permutes : (xs : List X) → IsPermutation xs (sort xs)
  sort_permutes [] = IsPermutation-refl []
  sort_permutes (x ∷ xs) = IsPermutation-trans (x ∷ xs) (x ∷ sort xs) (put x (sort xs))
      (IsPermutation-cons x xs (sort xs) (sort_permutes xs)) (put_permutes x (sort xs))

  -- ascending, by places

  next_place : (k : ℕ) → suc (k + 1) ≡ suc k + 1
  next_place k = omega arith

  sorted_at : (xs : List X) → Ascends xs → (k : ℕ) (d : X) → k + 1 < length xs
      → is_lt (R (slice_index_or xs (k + 1) d) (slice_index_or xs k d)) ≡ false
  sorted_at [] up k d within = absurd (omega (arith, within))
  sorted_at (x ∷ []) up k d within = absurd (omega (arith, within))
  sorted_at (x ∷ y ∷ ys) up zero d within = ap is_lt (total.antisymm y x)
      ∙ (reverse_lt (R x y) ∙ up.0.0)
  sorted_at (x ∷ y ∷ ys) up (suc k) d within =
      subst (λ n. is_lt (R (slice_index_or (x ∷ y ∷ ys) n d) (slice_index_or (y ∷ ys) k d)) ≡ false)
      (next_place k) (sorted_at (y ∷ ys) up.1 k d (omega (arith, within)))

  ascends_of : (xs : List X) → IsSorted R xs → Ascends xs
  ascends_of [] up = tt
  ascends_of (x ∷ []) up = (tt, tt)
  ascends_of (x ∷ y ∷ ys) up =
      let rest = ascends_of (y ∷ ys)
      (λ k d low within. subst (λ n. is_lt
      (R (slice_index_or (x ∷ y ∷ ys) n d) (slice_index_or (y ∷ ys) k d)) ≡ false)
      (sym (next_place k)) (up (suc k) d (omega arith) (omega (arith, within)))) in
      let first : UpTo x y = sym (reverse_lt (R x y))
      ∙ (ap is_lt (sym (total.antisymm y x)) ∙ up 0 x (omega arith) (omega arith)) in
      ((first, from_all x y first ys rest.0), rest)

  pub sorted_list : (xs : List X) → (ys : List X) × IsPermutation xs ys × IsSorted R ys
  sorted_list xs = (
    sort xs,
    sort_permutes xs,
    λ k d low within. sorted_at (sort xs) (sort_ascends xs) k d within,
  )

  -- ---- and only one, if items that tie are the same

  -- 1 for an item that ties with another
  abbrev ties : X → X → ℕ
  ties x y = if is_eq (R x y) then 1 else 0

  equal_of : (r : Ordering) → is_eq r ≡ true → r ≡ Equal
  equal_of Less is = cc
  equal_of Equal is = refl
  equal_of Greater is = cc
