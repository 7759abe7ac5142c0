-- What is in a sorted set of texts, and that it is sorted.
use Rattle.std.proofs.Common.{◌≡◌, ℕ, Bool, true, false, List, [], ◌∷◌, sym, refl, ◌∙◌, subst, inl}
use Rattle.std.proofs.Common.{inr}
use Rattle.std.specs.Prelude.{◌⊎◌, if◌then◌else◌}
use Rattle.std.specs.Str.{bytes_eq}
use Rattle.std.specs.Ordering.{nat_cmp}
use Rattle.std.specs.Cmp.Lexicographic.{slice_cmp}
use Rattle.std.proofs.lemmas.Cmp.{nat_list_cmp_total}
use Rattle.desk_model.specs.Lists.{IsIn}
use Rattle.desk_model.specs.Texts.{text_below, put_new, sorted_set}
use Rattle.desk_model.proofs.Orders.{IsOrder, order_of}
use Rattle.desk_base.proofs.Texts.{texts_equal}
use Rattle.desk_history.specs.Laws.{Rises}
use Rattle.desk_history.proofs.Chosen.{turns}

in_place : (x y z : List ℕ) (ys : List (List ℕ)) (a b : Bool) → bytes_eq x y ≡ b
    → ((x ≡ z) ⊎ IsIn z ys → IsIn z (put_new x ys)) → (x ≡ z) ⊎ IsIn z (y ∷ ys)
    → IsIn z (if a then x ∷ y ∷ ys else (if b then y ∷ ys else y ∷ put_new x ys))
in_place x y z ys true b e rest m = m
in_place x y z ys false true e rest (inl same) = inl (sym (texts_equal x y e) ∙ same)
in_place x y z ys false true e rest (inr m) = m
in_place x y z ys false false e rest (inl same) = inr (rest (inl same))
in_place x y z ys false false e rest (inr m) = elim m
    [ inl same ↦ inl same | inr n ↦ inr (rest (inr n)) ]

in_put_new : (x z : List ℕ) (ys : List (List ℕ)) → (x ≡ z) ⊎ IsIn z ys → IsIn z (put_new x ys)
in_put_new x z [] m = m
in_put_new x z (y ∷ ys) m = in_place x y z ys (text_below x y) (bytes_eq x y) refl
    (in_put_new x z ys) m

from_place : (x y z : List ℕ) (ys : List (List ℕ)) (a b : Bool)
    → (IsIn z (put_new x ys) → (x ≡ z) ⊎ IsIn z ys)
    → IsIn z (if a then x ∷ y ∷ ys else (if b then y ∷ ys else y ∷ put_new x ys))
    → (x ≡ z) ⊎ IsIn z (y ∷ ys)
from_place x y z ys true b rest m = m
from_place x y z ys false true rest m = inr m
from_place x y z ys false false rest (inl same) = inr (inl same)
from_place x y z ys false false rest (inr m) = elim (rest m)
    [ inl same ↦ inl same | inr n ↦ inr (inr n) ]

from_put_new : (x z : List ℕ) (ys : List (List ℕ)) → IsIn z (put_new x ys) → (x ≡ z) ⊎ IsIn z ys
from_put_new x z [] m = m
from_put_new x z (y ∷ ys) m = from_place x y z ys (text_below x y) (bytes_eq x y)
    (from_put_new x z ys) m

pub in_set : (z : List ℕ) (texts : List (List ℕ)) → IsIn z texts → IsIn z (sorted_set texts)
in_set z [] m = m
in_set z (x ∷ xs) m = in_put_new x z (sorted_set xs)
    (elim m [ inl same ↦ inl same | inr n ↦ inr (in_set z xs n) ])

pub from_set : (z : List ℕ) (texts : List (List ℕ)) → IsIn z (sorted_set texts) → IsIn z texts
from_set z [] m = m
from_set z (x ∷ xs) m = elim (from_put_new x z (sorted_set xs) m)
    [ inl same ↦ inl same | inr n ↦ inr (from_set z xs n) ]

-- ---- it is sorted

text_order : IsOrder text_below
text_order = order_of nat_list_cmp_total

before_all : (x y : List ℕ) (ys : List (List ℕ)) → text_below x y ≡ true → Rises text_below (y ∷ ys)
    → (z : List ℕ) → IsIn z (y ∷ ys) → text_below x z ≡ true
before_all x y ys e up z (inl same) = subst (λ t. text_below x t ≡ true) same e
before_all x y ys e up z (inr m) = text_order.between x y z e (text_order.asym y z (up.0 z m))

rises_in_place : (x y : List ℕ) (ys : List (List ℕ)) (a b : Bool) → text_below x y ≡ a
    → bytes_eq x y ≡ b → Rises text_below (y ∷ ys) → Rises text_below (put_new x ys)
    → Rises text_below (if a then x ∷ y ∷ ys else (if b then y ∷ ys else y ∷ put_new x ys))
rises_in_place x y ys true b e f up rest = (before_all x y ys e up, up)
rises_in_place x y ys false true e f up rest = up
rises_in_place x y ys false false e f up rest = (
  λ z m. elim (from_put_new x z ys m) [
    | inl same ↦ subst (λ t. text_below y t ≡ true) same
        (turns x y (slice_cmp nat_cmp x y) refl e f)
    | inr n ↦ up.0 z n
  ],
  rest,
)

rises_put_new : (x : List ℕ) (ys : List (List ℕ)) → Rises text_below ys
    → Rises text_below (put_new x ys)
rises_put_new x [] up = ((λ z m. absurd m), tt)
rises_put_new x (y ∷ ys) up = rises_in_place x y ys (text_below x y) (bytes_eq x y) refl refl up
    (rises_put_new x ys up.1)

pub set_rises : (texts : List (List ℕ)) → Rises text_below (sorted_set texts)
set_rises [] = tt
set_rises (x ∷ xs) = rises_put_new x (sorted_set xs) (set_rises xs)
