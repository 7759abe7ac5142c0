-- What is in a list made of others.
use Rattle.std.proofs.Common.{◌≡◌, List, [], ◌∷◌, ◌++◌, map, sym, refl, ap, subst, inl, inr, Option, Some, None}
use Rattle.std.specs.Prelude.{◌⊎◌}
use Rattle.std.specs.List.{flat_map, cons_option, filter_map}
use Rattle.desk_model.specs.Lists.{IsIn}

pub in_left : {A : Type 0} (x : A) (xs ys : List A) → IsIn x xs → IsIn x (xs ++ ys)
in_left x [] ys h = absurd h
in_left x (y ∷ xs) ys h = elim h [ inl e ↦ inl e | inr m ↦ inr (in_left x xs ys m) ]

pub in_right : {A : Type 0} (x : A) (xs ys : List A) → IsIn x ys → IsIn x (xs ++ ys)
in_right x [] ys h = h
in_right x (y ∷ xs) ys h = inr (in_right x xs ys h)

pub in_cases : {A : Type 0} (x : A) (xs ys : List A) → IsIn x (xs ++ ys) → IsIn x xs ⊎ IsIn x ys
in_cases x [] ys h = inr h
in_cases x (y ∷ xs) ys h = elim h [
  | inl e ↦ inl (inl e)
  | inr m ↦
      (elim (in_cases x xs ys m) [ inl l ↦ inl (inr l) | inr r ↦ inr r ])
]

pub in_map : {A B : Type 0} (f : A → B) (x : A) (xs : List A) → IsIn x xs → IsIn (f x) (map f xs)
in_map f x [] h = absurd h
in_map f x (y ∷ xs) h = elim h [ inl e ↦ inl (ap f e) | inr m ↦ inr (in_map f x xs m) ]

pub from_map : {A B : Type 0} (f : A → B) (z : B) (xs : List A) → IsIn z (map f xs)
    → (x : A) × IsIn x xs × (f x ≡ z)
from_map f z [] h = absurd h
from_map f z (y ∷ xs) h = elim h
    [ inl e ↦ (y, inl refl, e) | inr m ↦ (let w = from_map f z xs m in (w.0, inr w.1, w.2)) ]

pub in_flat_map : {A B : Type 0} (f : A → List B) (x : A) (z : B) (xs : List A) → IsIn x xs
    → IsIn z (f x) → IsIn z (flat_map f xs)
in_flat_map f x z [] h g = absurd h
in_flat_map f x z (y ∷ xs) h g = elim h [
  | inl e ↦ in_left z (f y) (flat_map f xs) (subst (λ u. IsIn z (f u)) (sym e) g)
  | inr m ↦ in_right z (f y) (flat_map f xs) (in_flat_map f x z xs m g)
]

pub from_flat_map : {A B : Type 0} (f : A → List B) (z : B) (xs : List A) → IsIn z (flat_map f xs)
    → (x : A) × IsIn x xs × IsIn z (f x)
from_flat_map f z [] h = absurd h
from_flat_map f z (y ∷ xs) h = elim (in_cases z (f y) (flat_map f xs) h)
    [ inl l ↦ (y, inl refl, l) | inr r ↦ (let w = from_flat_map f z xs r in (w.0, inr w.1, w.2)) ]

from_cons_option : {B : Type 0} (o : Option B) (z : B) (zs : List B) → IsIn z (cons_option o zs)
    → (o ≡ Some z) ⊎ IsIn z zs
from_cons_option None z zs h = inr h
from_cons_option (Some y) z zs h = elim h [ inl e ↦ inl (ap Some e) | inr m ↦ inr m ]

pub from_filter_map : {A B : Type 0} (f : A → Option B) (z : B) (xs : List A)
    → IsIn z (filter_map f xs) → (x : A) × IsIn x xs × (f x ≡ Some z)
from_filter_map f z [] m = absurd m
from_filter_map f z (y ∷ xs) m =
    elim (from_cons_option (f y) z (filter_map f xs) m) [
      | inl e ↦ (y, inl refl, e)
      | inr later ↦ (let w = from_filter_map f z xs later in (w.0, inr w.1, w.2))
    ]
