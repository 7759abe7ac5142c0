-- Counts of rows among those that a filter keeps, and in another order.
use Rattle.std.proofs.Common.{◌≡◌, ℕ, ◌+◌, Bool, true, false, cond, List, [], ◌∷◌, length, refl, sym, ap, ◌∙◌, arith}
use Rattle.std.specs.Prelude.{◌&&◌, map, filter, count_by}
use Rattle.std.specs.List.Sorted.{IsPermutation}
use Rattle.std.proofs.lemmas.List.{map-id}
use Rattle.std.proofs.lemmas.List.Sums.{sum_by-cons, length-filter}
use Rattle.std.proofs.lemmas.List.Sorted.{sum_by-IsPermutation}

one : Bool → ℕ
one b = cond b 1 0

module _ {A B : Type 0} (f : A → B) (p q : B → Bool) where
  kept : A → Bool → List A → List A
  kept x b xs = cond b (x ∷ xs) xs

  step : (x : A) (xs : List A) (b : Bool)
      → count_by (λ y. q (f y)) (cond b (x ∷ xs) xs)
      ≡ cond (b && q (f x)) 1 0 + count_by (λ y. q (f y)) xs
  step x xs true = sum_by-cons (λ y. cond (q (f y)) 1 0) x xs
  step x xs false = omega arith

  -- how many of those that pass one test pass another
  pub count_by-filter : (xs : List A)
      → count_by (λ x. q (f x)) (filter (λ x. p (f x)) xs) ≡ count_by (λ y. p y && q y) (map f xs)
  count_by-filter [] = refl
  count_by-filter (x ∷ xs) =
      step x (filter (λ y. p (f y)) xs) (p (f x))
      ∙ ap (λ n. cond (p (f x) && q (f x)) 1 0 + n) (count_by-filter xs)
      ∙ sym (sum_by-cons (λ y. cond (p y && q y) 1 0) (f x) (map f xs))

  pub length-filter_map : (xs : List A) → length (filter (λ x. p (f x)) xs) ≡ count_by p (map f xs)
  length-filter_map xs = length-filter (λ x. p (f x)) xs ∙ count_by-map xs where
    count_by-map : (xs : List A) → count_by (λ x. p (f x)) xs ≡ count_by p (map f xs)
    count_by-map [] = refl
    count_by-map (x ∷ xs) =
        sum_by-cons (λ y. cond (p (f y)) 1 0) x xs
        ∙ ap (λ n. cond (p (f x)) 1 0 + n) (count_by-map xs)
        ∙ sym (sum_by-cons (λ y. cond (p y) 1 0) (f x) (map f xs))

-- if a test keeps the same rows of two lists, it counts the same in both
pub count_by-among : {A : Type 0} (p : A → Bool) (rows all : List A) → filter p rows ≡ filter p all
    → count_by p rows ≡ count_by p all
count_by-among p rows all e = sym (length-filter p rows) ∙ ap length e ∙ length-filter p all

pub count_by-among_both : {A : Type 0} (p q : A → Bool) (rows all : List A)
    → filter p rows ≡ filter p all
    → count_by (λ x. p x && q x) rows ≡ count_by (λ x. p x && q x) all
count_by-among_both {A} p q rows all e =
    let kept : (xs : List A) → count_by q (filter p xs) ≡ count_by (λ x. p x && q x) xs =
    λ xs. count_by-filter (λ (x : A). x) p q xs ∙ ap (count_by (λ x. p x && q x)) (map-id xs) in
    sym (kept rows) ∙ ap (count_by q) e ∙ kept all

pub count_by-permutation : {A : Type 0} (p : A → Bool) (xs ys : List A) → IsPermutation xs ys
    → count_by p ys ≡ count_by p xs
count_by-permutation p xs ys same = sum_by-IsPermutation (λ x. cond (p x) 1 0) xs ys same
