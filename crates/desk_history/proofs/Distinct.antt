-- Lists in which nothing occurs twice.
use Rattle.std.proofs.Common.{◌≡◌, Bool, true, false, cond, List, [], ◌∷◌, ◌++◌, map, sym, refl, ap}
use Rattle.std.proofs.Common.{◌∙◌, subst, inl, inr}
use Rattle.std.specs.Prelude.{filter, if◌then◌else◌}
use Rattle.std.specs.List.{flat_map}
use Rattle.std.proofs.lemmas.List.{map-append}
use Rattle.desk_model.specs.Lists.{IsIn, put}
use Rattle.desk_history.specs.Laws.{AreDistinct}
use Rattle.desk_history.proofs.Members.{in_cases, in_map, from_map, from_flat_map}

pub distinct-append : {A : Type 0} (xs ys : List A) → AreDistinct xs → AreDistinct ys
    → ((x : A) → IsIn x xs → IsIn x ys → ⊥) → AreDistinct (xs ++ ys)
distinct-append [] ys a b apart = b
distinct-append (x ∷ xs) ys a b apart = (
  λ m. elim (in_cases x xs ys m) [ inl l ↦ a.0 l | inr r ↦ apart x (inl refl) r ],
  distinct-append xs ys a.1 b (λ y m n. apart y (inr m) n),
)

pub distinct-map : {A B : Type 0} (f : A → B) (xs : List A)
    → ((x y : A) → IsIn x xs → IsIn y xs → f x ≡ f y → x ≡ y) → AreDistinct xs
    → AreDistinct (map f xs)
distinct-map f [] same a = tt
distinct-map f (x ∷ xs) same a = (
  λ m. (let found = from_map f (f x) xs m in
      a.0 (subst (λ y. IsIn y xs) (same found.0 x (inr found.1) (inl refl) found.2) found.1)),
  distinct-map f xs (λ y z m n. same y z (inr m) (inr n)) a.1,
)

in_kept : {A : Type 0} (test : A → Bool) (x y : A) (ys : List A) (b : Bool) → test y ≡ b
    → IsIn x (cond b (y ∷ filter test ys) (filter test ys))
    → (IsIn x (filter test ys) → IsIn x ys × (test x ≡ true)) → IsIn x (y ∷ ys) × (test x ≡ true)
in_kept test x y ys true e m rest = elim m [
  | inl same ↦ (inl same, subst (λ z. test z ≡ true) same e)
  | inr n ↦ (let r = rest n in (inr r.0, r.1))
]
in_kept test x y ys false e m rest = let r = rest m in (inr r.0, r.1)

-- what a filter keeps
pub from_filter : {A : Type 0} (test : A → Bool) (x : A) (xs : List A) → IsIn x (filter test xs)
    → IsIn x xs × (test x ≡ true)
from_filter test x [] m = absurd m
from_filter test x (y ∷ ys) m = in_kept test x y ys (test y) refl m (from_filter test x ys)

pub distinct-filter : {A B : Type 0} (key : A → B) (test : A → Bool) (xs : List A)
    → AreDistinct (map key xs) → AreDistinct (map key (filter test xs))
distinct-filter key test [] a = tt
distinct-filter {A} key test (x ∷ xs) a =
    elim (test x) as (λ b. AreDistinct (map key (cond b (x ∷ filter test xs) (filter test xs)))) [
      | true ↦ (
        λ m. (let found = from_map key (key x) (filter test xs) m in
            a.0 (subst (λ k. IsIn k (map key xs)) found.2
            (in_map key found.0 xs (from_filter test found.0 xs found.1).0))),
        distinct-filter key test xs a.1,
      )
      | false ↦ distinct-filter key test xs a.1
    ]

-- lists of things whose keys show from which list each comes
pub distinct-flat_map : {A B K L : Type 0} (f : A → List B) (key : B → K) (part : K → L)
    (of : A → L) (xs : List A) → ((x : A) (z : B) → IsIn z (f x) → part (key z) ≡ of x)
    → AreDistinct (map of xs) → ((x : A) → IsIn x xs → AreDistinct (map key (f x)))
    → AreDistinct (map key (flat_map f xs))
distinct-flat_map f key part of [] tells a each = tt
distinct-flat_map {A} {B} {K} {L} f key part of (x ∷ xs) tells a each =
    let rest = distinct-flat_map f key part of xs tells a.1 (λ y m. each y (inr m)) in
    let apart : (k : K) → IsIn k (map key (f x)) → IsIn k (map key (flat_map f xs)) → ⊥ =
    λ k m n. (let here = from_map key k (f x) m in
    let there = from_map key k (flat_map f xs) n in
    let at = from_flat_map f there.0 xs there.1 in
    let same : of at.0 ≡ of x = sym (tells at.0 there.0 at.2)
    ∙ (ap part (there.2 ∙ sym here.2) ∙ tells x here.0 here.1) in
    a.0 (subst (λ l. IsIn l (map of xs)) same (in_map of at.0 xs at.1))) in
    subst AreDistinct (sym (map-append key (f x) (flat_map f xs)))
    (distinct-append (map key (f x)) (map key (flat_map f xs)) (each x (inl refl)) rest apart)

-- what is in a list after something was put in its place
pub from_put : {A : Type 0} (below : A → A → Bool) (z x : A) (xs : List A) → IsIn z (put below x xs)
    → IsIn z (x ∷ xs)
from_put below z x [] m = m
from_put below z x (y ∷ ys) m =
    (elim (below x y) as (λ b. IsIn z (if b then x ∷ y ∷ ys else y ∷ put below x ys)
    → IsIn z (x ∷ y ∷ ys)) [
      | true ↦ λ n. n
      | false ↦ λ n. elim n [
        | inl same ↦ inr (inl same)
        | inr o ↦ (elim (from_put below z x ys o) [ inl same ↦ inl same | inr p ↦ inr (inr p) ])
      ]
    ]) m

pub distinct-put : {A : Type 0} (below : A → A → Bool) (x : A) (xs : List A) → (¬ IsIn x xs)
    → AreDistinct xs → AreDistinct (put below x xs)
distinct-put below x [] new a = (λ m. m, tt)
distinct-put below x (y ∷ ys) new a =
    elim (below x y) as (λ b. AreDistinct (if b then x ∷ y ∷ ys else y ∷ put below x ys)) [
      | true ↦ (new, a)
      | false ↦ (
        λ m. elim (from_put below y x ys m) [ inl same ↦ new (inl (sym same)) | inr n ↦ a.0 n ],
        distinct-put below x ys (λ m. new (inr m)) a.1,
      )
    ]
