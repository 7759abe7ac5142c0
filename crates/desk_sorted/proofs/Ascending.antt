-- Rows that ascend, and still do after a change.
use Rattle.std.proofs.Common.{◌≡◌, ℕ, zero, suc, ◌<◌, ◌≤◌, Bool, true, false, List, [], ◌∷◌}
use Rattle.std.proofs.Common.{length, get_or, refl, ◌∙◌, arith}
use Rattle.std.proofs.lemmas.Bool.{not-true}
use Rattle.std.specs.Prelude.{if◌then◌else◌, not}
use Rattle.std.specs.Ordering.{ordering_index}
use Rattle.std.specs.declared.cmp.Ordering.{Ordering}
use Rattle.desk_model.specs.Lists.{put_all, updated, over, ascends}
use Rattle.desk_model.specs.Keys.{below_by}
use Rattle.desk_sorted.specs.Sorted.{IsSideOf}
use Rattle.desk_base.proofs.Bools.{and_left, and_right}
use Rattle.desk_model.proofs.Orders.{IsOrder, ascends-put}

-- a row that is put in its place

pub ascends-put_all : {A : Type 0} (below : A → A → Bool) → IsOrder below → (xs ys : List A)
    → ascends below ys ≡ true → ascends below (put_all below xs ys) ≡ true
ascends-put_all below o [] ys up = up
ascends-put_all below o (x ∷ xs) ys up = ascends-put below o x (put_all below xs ys)
    (ascends-put_all below o xs ys up)

-- rows that are cut out

-- rows that change, but not in what orders them

pub record KeepsPlaces {A : Type 0} (below : A → A → Bool) (change : A → A) : Type 0 where
  pub first : (x y : A) → below (change x) y ≡ below x y
  pub second : (x y : A) → below x (change y) ≡ below x y

either_first : {A : Type 0} (below : A → A → Bool) (change : A → A) → KeepsPlaces below change
    → (x y : A) (b : Bool) → below (if b then change x else x) y ≡ below x y
either_first below change k x y true = k.first x y
either_first below change k x y false = refl

either_second : {A : Type 0} (below : A → A → Bool) (change : A → A) → KeepsPlaces below change
    → (x y : A) (b : Bool) → below x (if b then change y else y) ≡ below x y
either_second below change k x y true = k.second x y
either_second below change k x y false = refl

over-updated : {A : Type 0} (below : A → A → Bool) (test : A → Bool) (change : A → A)
    → KeepsPlaces below change → (y : A) (b : Bool) (zs : List A)
    → over below (if b then change y else y) (updated test change zs) ≡ over below y zs
over-updated below test change k y b [] = refl
over-updated below test change k y b (z ∷ zs) =
    let here = either_first below change k z (if b then change y else y) (test z)
    ∙ either_second below change k z y b in
    rw (here, over-updated below test change k y b zs) refl

pub ascends-updated : {A : Type 0} (below : A → A → Bool) (test : A → Bool) (change : A → A)
    → KeepsPlaces below change → (ys : List A)
    → ascends below (updated test change ys) ≡ ascends below ys
ascends-updated below test change k [] = refl
ascends-updated below test change k (y ∷ ys) = rw (
  over-updated below test change k y (test y) ys,
  ascends-updated below test change k ys,
) refl

-- what is sought among rows that ascend

over_at : {A : Type 0} (below : A → A → Bool) (y : A) (zs : List A) (j : ℕ) (d : A)
    → over below y zs ≡ true → j < length zs → below (get_or zs j d) y ≡ false
over_at below y [] j d e lt = absurd (omega (arith, lt))
over_at below y (z ∷ zs) zero d e lt = not-true (below z y)
    (and_left (not (below z y)) (over below y zs) e)
over_at below y (z ∷ zs) (suc j) d e lt = over_at below y zs j d
    (and_right (not (below z y)) (over below y zs) e) (omega (arith, lt))

pub rises_along : {A : Type 0} (order : A → A → Ordering) (side : A → Ordering)
    → IsSideOf order side → (xs : List A) → ascends (below_by order) xs ≡ true → (i j : ℕ) (d : A)
    → i ≤ j → j < length xs → ordering_index (side (get_or xs i d))
    ≤ ordering_index (side (get_or xs j d))
rises_along order side s [] up i j d le lt = absurd (omega (arith, lt))
rises_along order side s (x ∷ xs) up zero zero d le lt = omega arith
rises_along order side s (x ∷ xs) up zero (suc j) d le lt =
    s x (get_or xs j d) (over_at (below_by order) x xs j d
    (and_left (over (below_by order) x xs) (ascends (below_by order) xs) up) (omega (arith, lt)))
rises_along order side s (x ∷ xs) up (suc i) zero d le lt = absurd (omega (arith, le))
rises_along order side s (x ∷ xs) up (suc i) (suc j) d le lt =
    rises_along order side s xs (and_right (over (below_by order) x xs)
    (ascends (below_by order) xs) up) i j d (omega (arith, le)) (omega (arith, lt))
