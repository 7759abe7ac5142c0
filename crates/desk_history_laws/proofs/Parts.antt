-- What is made of some rows, in any order.
use Rattle.std.proofs.Common.{◌≡◌, Bool, true, false, List, [], ◌∷◌, ◌++◌, sym, subst, append_assoc}
use Rattle.std.specs.Prelude.{IsPermutation, if◌then◌else◌}
use Rattle.std.specs.List.{flat_map}
use Rattle.std.proofs.lemmas.List.Sorted.{IsPermutation-append_comm, IsPermutation-append_left}
use Rattle.std.proofs.lemmas.List.Sorted.{IsPermutation-append_right, IsPermutation-refl}
use Rattle.std.proofs.lemmas.List.Sorted.{IsPermutation-trans}
use Rattle.desk_model.specs.Lists.{put, in_order}

pub from_same : {A : Type 0} (xs ys zs : List A) → xs ≡ ys → IsPermutation ys zs
    → IsPermutation xs zs
from_same xs ys zs e p = subst (λ us. IsPermutation us zs) (sym e) p

pub to_same : {A : Type 0} (xs ys zs : List A) → IsPermutation xs ys → ys ≡ zs → IsPermutation xs zs
to_same xs ys zs p e = subst (λ us. IsPermutation xs us) e p

-- what is made of some rows is made of them in order
put_parts : {A B : Type 0} (below : A → A → Bool) (f : A → List B) (x : A) (ys : List A)
    → IsPermutation (flat_map f (put below x ys)) (f x ++ flat_map f ys)
put_parts below f x [] = IsPermutation-refl (f x ++ [])
put_parts below f x (y ∷ ys) =
    elim (below x y) as (λ b. IsPermutation
    (flat_map f (if b then x ∷ y ∷ ys else y ∷ put below x ys)) (f x ++ flat_map f (y ∷ ys))) [
      | true ↦ IsPermutation-refl (f x ++ flat_map f (y ∷ ys))
      | false ↦
          to_same (f y ++ flat_map f (put below x ys)) ((f x ++ f y) ++ flat_map f ys)
          (f x ++ (f y ++ flat_map f ys))
          (IsPermutation-trans (f y ++ flat_map f (put below x ys)) (f y ++ (f x ++ flat_map f ys))
          ((f x ++ f y) ++ flat_map f ys)
          (IsPermutation-append_right (f y) (flat_map f (put below x ys)) (f x ++ flat_map f ys)
          (put_parts below f x ys))
          (from_same (f y ++ (f x ++ flat_map f ys)) ((f y ++ f x) ++ flat_map f ys)
          ((f x ++ f y) ++ flat_map f ys) (sym (append_assoc (f y) (f x) (flat_map f ys)))
          (IsPermutation-append_left (flat_map f ys) (f y ++ f x) (f x ++ f y)
          (IsPermutation-append_comm (f y) (f x)))))
          (append_assoc (f x) (f y) (flat_map f ys))
    ]

pub ordered_parts : {A B : Type 0} (below : A → A → Bool) (f : A → List B) (xs : List A)
    → IsPermutation (flat_map f (in_order below xs)) (flat_map f xs)
ordered_parts below f [] = IsPermutation-refl []
ordered_parts below f (x ∷ xs) =
    IsPermutation-trans (flat_map f (put below x (in_order below xs)))
    (f x ++ flat_map f (in_order below xs)) (f x ++ flat_map f xs)
    (put_parts below f x (in_order below xs))
    (IsPermutation-append_right (f x) (flat_map f (in_order below xs)) (flat_map f xs)
    (ordered_parts below f xs))
