-- What is in a list that was filtered or put in order.
use Rattle.std.proofs.Common.{◌≡◌, Bool, true, false, cond, List, [], ◌∷◌, Option, Some, None, sym}
use Rattle.std.proofs.Common.{refl, ap, ◌∙◌, subst, inl, inr}
use Rattle.std.proofs.lemmas.Bool.{not-true}
use Rattle.std.specs.Prelude.{◌⊎◌, filter, not, if◌then◌else◌}
use Rattle.std.specs.List.{filter_map, cons_option}
use Rattle.desk_model.specs.Lists.{IsIn, put, in_order, replaced}
use Rattle.desk_model.proofs.Lists.{from_put}

in_kept : {A : Type 0} (x y : A) (xs : List A) (b : Bool) → b ≡ true → y ≡ x
    → IsIn x (cond b (y ∷ xs) xs)
in_kept x y xs true e same = inl same
in_kept x y xs false e same = cc

in_more : {A : Type 0} (x y : A) (xs : List A) (b : Bool) → IsIn x xs → IsIn x (cond b (y ∷ xs) xs)
in_more x y xs true m = inr m
in_more x y xs false m = m

pub in_filter : {A : Type 0} (test : A → Bool) (x : A) (xs : List A) → test x ≡ true → IsIn x xs
    → IsIn x (filter test xs)
in_filter test x [] e m = m
in_filter test x (y ∷ ys) e m =
    elim m [
      | inl same ↦ in_kept x y (filter test ys) (test y) (ap test same ∙ e) same
      | inr n ↦ in_more x y (filter test ys) (test y) (in_filter test x ys e n)
    ]

abbrev Passes : {A : Type 0} → (A → Bool) → A → List A → Type 0
Passes test x xs = (test x ≡ true) × IsIn x xs

from_kept : {A : Type 0} (test : A → Bool) (x y : A) (xs ys : List A) (b : Bool) → test y ≡ b
    → (IsIn x xs → Passes test x ys) → IsIn x (cond b (y ∷ xs) xs) → Passes test x (y ∷ ys)
from_kept test x y xs ys true e rest m =
    elim m [ inl same ↦ (ap test (sym same) ∙ e, inl same) | inr n ↦ ((rest n).0, inr (rest n).1) ]
from_kept test x y xs ys false e rest m = ((rest m).0, inr (rest m).1)

pub from_filter : {A : Type 0} (test : A → Bool) (x : A) (xs : List A) → IsIn x (filter test xs)
    → Passes test x xs
from_filter test x [] m = absurd m
from_filter test x (y ∷ ys) m = from_kept test x y (filter test ys) ys (test y) refl
    (from_filter test x ys) m

-- what entries give

in_given : {B : Type 0} (z : B) (o : Option B) (xs : List B) → o ≡ Some z
    → IsIn z (cons_option o xs)
in_given z o xs e = subst (λ p. IsIn z (cons_option p xs)) (sym e) (inl refl)

in_behind : {B : Type 0} (z : B) (o : Option B) (xs : List B) → IsIn z xs
    → IsIn z (cons_option o xs)
in_behind z None xs m = m
in_behind z (Some y) xs m = inr m

pub in_filter_map : {A B : Type 0} (f : A → Option B) (x : A) (z : B) (xs : List A) → f x ≡ Some z
    → IsIn x xs → IsIn z (filter_map f xs)
in_filter_map f x z [] e m = absurd m
in_filter_map f x z (y ∷ ys) e m =
    elim m [
      | inl same ↦ in_given z (f y) (filter_map f ys) (ap f same ∙ e)
      | inr n ↦ in_behind z (f y) (filter_map f ys) (in_filter_map f x z ys e n)
    ]

abbrev Gives : {A B : Type 0} → (A → Option B) → B → List A → Type 0
Gives {A} f z xs = (x : A) × IsIn x xs × (f x ≡ Some z)

from_given : {A B : Type 0} (f : A → Option B) (z : B) (y : A) (o : Option B) (ys : List A)
    (zs : List B) → f y ≡ o → (IsIn z zs → Gives f z ys) → IsIn z (cons_option o zs)
    → Gives f z (y ∷ ys)
from_given f z y None ys zs e rest m = let at = rest m in (at.0, inr at.1, at.2)
from_given f z y (Some u) ys zs e rest m = elim m [
  | inl same ↦ (y, inl refl, e ∙ ap (λ v. Some v) same)
  | inr n ↦ (let at = rest n in (at.0, inr at.1, at.2))
]

pub from_filter_map : {A B : Type 0} (f : A → Option B) (z : B) (xs : List A)
    → IsIn z (filter_map f xs) → Gives f z xs
from_filter_map f z [] m = absurd m
from_filter_map f z (y ∷ ys) m = from_given f z y (f y) ys (filter_map f ys) refl
    (from_filter_map f z ys) m

-- rows put in their places

pub in_put : {A : Type 0} (below : A → A → Bool) (x z : A) (ys : List A) → (x ≡ z) ⊎ IsIn z ys
    → IsIn z (put below x ys)
in_put below x z [] m = m
in_put below x z (y ∷ ys) m =
    elim (below x y) as (λ b. IsIn z (if b then x ∷ y ∷ ys else y ∷ put below x ys)) [
      | true ↦ m
      | false ↦ elim m [
        | inl same ↦ inr (in_put below x z ys (inl same))
        | inr n ↦ elim n [ inl same ↦ inl same | inr k ↦ inr (in_put below x z ys (inr k)) ]
      ]
    ]

pub in_sorted : {A : Type 0} (below : A → A → Bool) (z : A) (xs : List A) → IsIn z xs
    → IsIn z (in_order below xs)
in_sorted below z [] m = m
in_sorted below z (x ∷ xs) m =
    in_put below x z (in_order below xs)
    (elim m [ inl same ↦ inl same | inr n ↦ inr (in_sorted below z xs n) ])

pub from_sorted : {A : Type 0} (below : A → A → Bool) (z : A) (xs : List A)
    → IsIn z (in_order below xs) → IsIn z xs
from_sorted below z [] m = m
from_sorted below z (x ∷ xs) m =
    elim (from_put below x z (in_order below xs) m)
    [ inl same ↦ inl same | inr n ↦ inr (from_sorted below z xs n) ]

-- a row in place of what has its key
pub in_replaced : {A : Type 0} (below : A → A → Bool) (at : A → Bool) (x z : A) (ys : List A)
    → (x ≡ z) ⊎ ((at z ≡ false) × IsIn z ys) → IsIn z (replaced below at x ys)
in_replaced below at x z ys m =
    in_put below x z (filter (λ y. not (at y)) ys)
    (elim m [
      | inl same ↦ inl same
      | inr n ↦ inr (in_filter (λ y. not (at y)) z ys (ap not n.0) n.1)
    ])

pub from_replaced : {A : Type 0} (below : A → A → Bool) (at : A → Bool) (x z : A) (ys : List A)
    → IsIn z (replaced below at x ys) → (x ≡ z) ⊎ ((at z ≡ false) × IsIn z ys)
from_replaced below at x z ys m =
    elim (from_put below x z (filter (λ y. not (at y)) ys) m) [
      | inl same ↦ inl same
      | inr n ↦ (let own = from_filter (λ y. not (at y)) z ys n in
          inr (not-true (at z) own.0, own.1))
    ]
