-- Facts about sorted lists and what stands in lists.
use Rattle.std.proofs.Common.{◌≡◌, ◌+◌, suc, Bool, true, false, cond, if◌then◌else◌}
use Rattle.std.proofs.Common.{List, [], ◌∷◌, ◌++◌, length, filter, find}
use Rattle.std.proofs.Common.{Some, inl, inr, refl, ap, subst, arith, ◌∙◌, ◌⊎◌}
use Rattle.std.specs.Prelude.{◌||◌, not}
use Rattle.std.specs.List.{list_all, list_any}
use Rattle.std.proofs.Math.Bool.{or-true}
use Rattle.std.proofs.lemmas.Bool.{and_from}
use Rattle.desk_base.proofs.Bools.{and_left, and_right, or_left, or_right}
use Rattle.desk_model.specs.Lists.{IsIn, ascends, over, put, updated}

-- ---- lists in order

pub length-put : {A : Type 0} (below : A → A → Bool) (x : A) (xs : List A)
    → length (put below x xs) ≡ length xs + 1
length-put below x [] = omega arith
length-put below x (y ∷ ys) =
    elim (below x y) as (λ b. length (if b then x ∷ y ∷ ys else y ∷ put below x ys)
    ≡ length (y ∷ ys) + 1) [
      | true ↦ omega arith
      | false ↦ omega (arith, length-put below x ys)
    ]

-- a row that comes after some rows, and before the rest
pub put-past : {A : Type 0} (below : A → A → Bool) (x : A) (ys zs : List A)
    → list_any (below x) ys ≡ false → put below x (ys ++ zs) ≡ ys ++ put below x zs
put-past below x [] zs none = refl
put-past below x (y ∷ ys) zs none =
    rw (
      or_left (below x y) (list_any (below x) ys) none,
      put-past below x ys zs (or_right (below x y) (list_any (below x) ys) none),
    ) refl

pub from_place : {A : Type 0} (below : A → A → Bool) (x y z : A) (ys : List A) (b : Bool)
    → (IsIn z (put below x ys) → (x ≡ z) ⊎ IsIn z ys)
    → IsIn z (if b then x ∷ y ∷ ys else y ∷ put below x ys) → (x ≡ z) ⊎ IsIn z (y ∷ ys)
from_place below x y z ys true rest m = m
from_place below x y z ys false rest m =
    elim m [
      | inl same ↦ inr (inl same)
      | inr n ↦ elim (rest n) [ inl same ↦ inl same | inr k ↦ inr (inr k) ]
    ]

pub from_put : {A : Type 0} (below : A → A → Bool) (x z : A) (ys : List A) → IsIn z (put below x ys)
    → (x ≡ z) ⊎ IsIn z ys
from_put below x z [] m = m
from_put below x z (y ∷ ys) m = from_place below x y z ys (below x y) (from_put below x z ys) m

pub over-filter : {A : Type 0} (below : A → A → Bool) (test : A → Bool) (x : A) (ys : List A)
    → over below x ys ≡ true → over below x (filter test ys) ≡ true
over-filter below test x [] all = refl
over-filter below test x (y ∷ ys) all =
    elim (test y) as (λ b. over below x (cond b (y ∷ filter test ys) (filter test ys)) ≡ true) [
      | true ↦ and_from (not (below y x)) (over below x (filter test ys))
          (and_left (not (below y x)) (over below x ys) all)
          (over-filter below test x ys (and_right (not (below y x)) (over below x ys) all))
      | false ↦ over-filter below test x ys (and_right (not (below y x)) (over below x ys) all)
    ]

pub ascends-filter : {A : Type 0} (below : A → A → Bool) (test : A → Bool) (ys : List A)
    → ascends below ys ≡ true → ascends below (filter test ys) ≡ true
ascends-filter below test [] up = refl
ascends-filter below test (y ∷ ys) up =
    elim (test y) as (λ b. ascends below (cond b (y ∷ filter test ys) (filter test ys)) ≡ true) [
      | true ↦ and_from (over below y (filter test ys)) (ascends below (filter test ys))
          (over-filter below test y ys (and_left (over below y ys) (ascends below ys) up))
          (ascends-filter below test ys (and_right (over below y ys) (ascends below ys) up))
      | false ↦ ascends-filter below test ys (and_right (over below y ys) (ascends below ys) up)
    ]

pub length-updated : {A : Type 0} (test : A → Bool) (change : A → A) (xs : List A)
    → length (updated test change xs) ≡ length xs
length-updated test change [] = refl
length-updated test change (x ∷ xs) = ap suc (length-updated test change xs)

-- ---- what stands in a list

pub all_pass : {A : Type 0} (test : A → Bool) (xs : List A) → ((x : A) → IsIn x xs → test x ≡ true)
    → list_all test xs ≡ true
all_pass test [] each = refl
all_pass test (x ∷ xs) each = and_from (test x) (list_all test xs) (each x (inl refl))
    (all_pass test xs (λ y there. each y (inr there)))

pub each_passes : {A : Type 0} (test : A → Bool) (x : A) (xs : List A) → list_all test xs ≡ true
    → IsIn x xs → test x ≡ true
each_passes test x [] all there = absurd there
each_passes test x (y ∷ ys) all (inl e) =
    subst (λ z. test z ≡ true) e (and_left (test y) (list_all test ys) all)
each_passes test x (y ∷ ys) all (inr there) =
    each_passes test x ys (and_right (test y) (list_all test ys) all) there

pub one_passes : {A : Type 0} (test : A → Bool) (xs : List A) → list_any test xs ≡ true
    → (y : A) × IsIn y xs × (test y ≡ true)
one_passes test [] e = absurd (cc)
one_passes {A} test (x ∷ xs) e = here (one_passes test xs) (test x) refl e
  where
    here : (list_any test xs ≡ true → (y : A) × IsIn y xs × (test y ≡ true)) → (b : Bool)
        → test x ≡ b → (b || list_any test xs) ≡ true
        → (y : A) × IsIn y (x ∷ xs) × (test y ≡ true)
    here later true is e = (x, inl refl, is)
    here later false is e = let found = later e in (found.0, inr found.1, found.2)

pub one_any : {A : Type 0} (test : A → Bool) (x : A) (xs : List A) → IsIn x xs → test x ≡ true
    → list_any test xs ≡ true
one_any test x [] there is = absurd there
one_any test x (y ∷ ys) (inl same) is = ap (λ b. b || list_any test ys) (ap test same ∙ is)
one_any test x (y ∷ ys) (inr later) is =
    ap (λ b. test y || b) (one_any test x ys later is) ∙ or-true (test y)

pub found_in : {A : Type 0} (test : A → Bool) (xs : List A) (x : A) → find test xs ≡ Some x
    → IsIn x xs × (test x ≡ true)
found_in test [] x e = cc
found_in test (y ∷ ys) x e = either (found_in test ys x) (test y) refl e
  where
    either : (find test ys ≡ Some x → IsIn x ys × (test x ≡ true)) → (b : Bool) → test y ≡ b
        → cond b (Some y) (find test ys) ≡ Some x → IsIn x (y ∷ ys) × (test x ≡ true)
    either rest true f g = let same : y ≡ x = cc in (inl same, subst (λ z. test z ≡ true) same f)
    either rest false f g = (inr (rest g).0, (rest g).1)
