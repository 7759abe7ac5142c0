-- Lists in order: a list has only one order if items that tie are the same.
use Rattle.std.proofs.Common.{◌≡◌, ℕ, suc, ◌<◌, Bool, true, false, cond, List, [], ◌∷◌, length}
use Rattle.std.proofs.Common.{get_or, refl, sym, ap, ap₂, ◌∙◌, add-one, arith, Ordering, Less}
use Rattle.std.proofs.Common.{Equal, Greater}
use Rattle.std.specs.Prelude.{not, IsPermutation}
use Rattle.std.specs.List.{sum_by}
use Rattle.std.specs.List.Sorted.{IsSortedBy}
use Rattle.std.specs.Cmp.{IsStrictWeakOrder, IsTotalOrder}
use Rattle.std.specs.Ordering.{is_lt, ordering_reverse}
use Rattle.std.proofs.lemmas.Cmp.{tied_itself}
use Rattle.std.proofs.lemmas.List.Sums.{sum_by-cons}
use Rattle.std.proofs.lemmas.List.Sorted.{sorted_far, sum_by-IsPermutation}
use Rattle.std.proofs.lemmas.Bool.{and_from, not-true}
use Rattle.desk_base.proofs.Bools.{and_left, and_right}
use Rattle.desk_model.specs.Keys.{below_by}
use Rattle.desk_model.specs.Lists.{ascends, over}
use Rattle.desk_model.proofs.Orders.{order_of}

over_each : {A : Type 0} (lt : A → A → Bool) (x : A) (ys : List A)
    → ((k : ℕ) (d : A) → k < length ys → lt (get_or ys k d) x ≡ false) → over lt x ys ≡ true
over_each lt x [] h = refl
over_each lt x (y ∷ ys) h =
    and_from (not (lt y x)) (over lt x ys) (ap not (h 0 y (omega arith)))
    (over_each lt x ys (λ k d less. h (suc k) d (omega arith)))

-- a sorted list ascends
pub ascends-sorted : {A : Type 0} (lt : A → A → Bool) → IsStrictWeakOrder lt → (xs : List A)
    → IsSortedBy lt xs
    → ascends lt xs ≡ true
ascends-sorted lt o [] sorted = refl
ascends-sorted lt o (x ∷ xs) sorted =
    let tail : IsSortedBy lt xs =
    λ k d p q. rw add-one (rw add-one at (sorted (suc k) d (omega arith) (omega arith))) in
    and_from (over lt x xs) (ascends lt xs)
    (over_each lt x xs (λ k d less. sorted_far lt o (x ∷ xs) sorted 0 (suc k) d (omega arith)
    (omega arith)))
    (ascends-sorted lt o xs tail)

-- the same members, each equally often
abbrev Same : {A : Type 0} → List A → List A → Type 0
Same {A} xs ys = (f : A → ℕ) → sum_by f xs ≡ sum_by f ys

module _ {A : Type 0} (order : A → A → Ordering) (total : IsTotalOrder order) where
  abbrev below : A → A → Bool
  below = below_by order

  -- 1 for what isn't above y
  abbrev upto : A → A → ℕ
  upto y z = cond (below y z) 0 1

  none : (x y : A) (xs : List A) → below y x ≡ true → over below x xs ≡ true
      → sum_by (upto y) xs ≡ 0
  none x y [] e all = refl
  none x y (z ∷ zs) e all =
      let here : below z x ≡ false =
      not-true (below z x) (and_left (not (below z x)) (over below x zs) all) in
      let above : below y z ≡ true = (order_of total).between y x z e here in
      let nothing : upto y z ≡ 0 = ap (λ b. cond b 0 1) above in
      omega (
        arith,
        sum_by-cons (upto y) z zs,
        nothing,
        none x y zs e (and_right (not (below z x)) (over below x zs) all),
      )

  itself : (y : A) (ys : List A) → 0 < sum_by (upto y) (y ∷ ys)
  itself y ys =
      let one : upto y y ≡ 1 = ap (λ o. cond (is_lt o) 0 1) (tied_itself total y) in
      omega (arith, sum_by-cons (upto y) y ys, one)

  first : (x y : A) (xs ys : List A) (b : Bool) → below y x ≡ b → ascends below (x ∷ xs) ≡ true
      → Same (x ∷ xs) (y ∷ ys) → b ≡ false
  first x y xs ys false e up same = refl
  first x y xs ys true e up same =
      let here : upto y x ≡ 0 = ap (λ b. cond b 0 1) e in
      let nothing : sum_by (upto y) xs ≡ 0 =
      none x y xs e (and_left (over below x xs) (ascends below xs) up) in
      absurd (omega (arith, sum_by-cons (upto y) x xs, here, nothing, same (upto y), itself y ys))

  neither : (x y : A) (o : Ordering) → order x y ≡ o → below x y ≡ false → below y x ≡ false
      → o ≡ Equal
  neither x y Less e p q = cc
  neither x y Equal e p q = refl
  neither x y Greater e p q = let turned : order y x ≡ Less = total.antisymm y x
      ∙ ap ordering_reverse e in cc

  rest : (x : A) (xs ys : List A) → Same (x ∷ xs) (x ∷ ys) → Same xs ys
  rest x xs ys same = λ f. omega (arith, same f, sum_by-cons f x xs, sum_by-cons f x ys)

  one_order : ((x y : A) → order x y ≡ Equal → x ≡ y) → (xs ys : List A) → ascends below xs ≡ true
      → ascends below ys ≡ true → Same xs ys → xs ≡ ys
  one_order tied [] [] up down same = refl
  one_order tied [] (y ∷ ys) up down same = absurd (omega
      (arith, same (λ z. 1), sum_by-cons (λ z. 1) y ys))
  one_order tied (x ∷ xs) [] up down same = absurd (omega
      (arith, same (λ z. 1), sum_by-cons (λ z. 1) x xs))
  one_order tied (x ∷ xs) (y ∷ ys) up down same =
      let alike : x ≡ y =
      tied x y (neither x y (order x y) refl
      (first y x ys xs (below x y) refl down (λ f. sym (same f)))
      (first x y xs ys (below y x) refl up same)) in
      let more : Same xs ys = rest x xs ys
      (λ f. same f ∙ ap (λ z. sum_by f (z ∷ ys)) (sym alike)) in
      ap₂ (λ z zs. z ∷ zs) alike
      (one_order tied xs ys (and_right (over below x xs) (ascends below xs) up)
      (and_right (over below y ys) (ascends below ys) down) more)

  pub sorted_once : ((x y : A) → order x y ≡ Equal → x ≡ y) → (xs ys : List A)
      → ascends below xs ≡ true
      → ascends below ys ≡ true → IsPermutation xs ys → xs ≡ ys
  sorted_once tied xs ys up down same = one_order tied xs ys up down
      (λ f. sym (sum_by-IsPermutation f xs ys same))
