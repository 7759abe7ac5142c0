-- Lists of rows made of lists of keys.
use Rattle.std.proofs.Common.{◌≡◌, ℕ, ◌+◌, Bool, true, false, cond, List, [], ◌∷◌, ◌++◌, length}
use Rattle.std.proofs.Common.{map, Some, None, refl, ap, ◌∙◌, arith, inl, inr}
use Rattle.std.specs.Prelude.{if◌then◌else◌, find, ◌||◌, filter}
use Rattle.std.specs.List.{list_any}
use Rattle.std.specs.Option.{option_map}
use Rattle.std.specs.Str.{bytes_eq}
use Rattle.desk_model.specs.Lists.{put, put_all, in_order, updated}
use Rattle.desk_model.proofs.Lists.{length-put}
use Rattle.desk_base.proofs.Bools.{or_left, or_right}
use Rattle.desk_base.proofs.Texts.{text_tells}

-- a key in its place, and its row in its place
pub map-put : {A B : Type 0} (below : A → A → Bool) (below' : B → B → Bool) (f : A → B)
    → ((a b : A) → below' (f a) (f b) ≡ below a b) → (x : A) (xs : List A)
    → map f (put below x xs) ≡ put below' (f x) (map f xs)
map-put below below' f same x [] = refl
map-put below below' f same x (y ∷ ys) =
    rw (same x y)
    (elim (below x y) as (λ b. map f (if b then x ∷ y ∷ ys else y ∷ put below x ys)
    ≡ (if b then f x ∷ f y ∷ map f ys else f y ∷ put below' (f x) (map f ys))) [
      | true ↦ refl
      | false ↦ ap (λ zs. f y ∷ zs) (map-put below below' f same x ys)
    ])

pub swap_or : (a b c : Bool) → (a || (b || c)) ≡ (b || (a || c))
swap_or true true c = refl
swap_or true false c = refl
swap_or false true c = refl
swap_or false false c = refl

pub list_any-put : {A : Type 0} (below : A → A → Bool) (test : A → Bool) (x : A) (xs : List A)
    → list_any test (put below x xs) ≡ (test x || list_any test xs)
list_any-put below test x [] = refl
list_any-put below test x (y ∷ ys) =
    elim (below x y) as (λ b. list_any test (if b then x ∷ y ∷ ys else y ∷ put below x ys)
    ≡ (test x || (test y || list_any test ys))) [
      | true ↦ refl
      | false ↦ ap (λ b. test y || b) (list_any-put below test x ys)
          ∙ swap_or (test y) (test x) (list_any test ys)
    ]

pub list_any-in_order : {A : Type 0} (below : A → A → Bool) (test : A → Bool) (xs : List A)
    → list_any test (in_order below xs) ≡ list_any test xs
list_any-in_order below test [] = refl
list_any-in_order below test (x ∷ xs) = list_any-put below test x (in_order below xs)
    ∙ ap (λ b. test x || b) (list_any-in_order below test xs)

pub length-in_order : {A : Type 0} (below : A → A → Bool) (xs : List A)
    → length (in_order below xs) ≡ length xs
length-in_order below [] = refl
length-in_order below (x ∷ xs) = omega
    (arith, length-put below x (in_order below xs), length-in_order below xs)

-- the rows that a filter keeps
pub filter-map : {A B : Type 0} (test : B → Bool) (f : A → B) (xs : List A)
    → filter test (map f xs) ≡ map f (filter (λ x. test (f x)) xs)
filter-map test f [] = refl
filter-map test f (x ∷ xs) =
    elim (test (f x)) as (λ b. cond b (f x ∷ filter test (map f xs)) (filter test (map f xs))
    ≡ map f (cond b (x ∷ filter (λ x. test (f x)) xs) (filter (λ x. test (f x)) xs))) [
      | true ↦ ap (λ ys. f x ∷ ys) (filter-map test f xs)
      | false ↦ filter-map test f xs
    ]

-- rows found by their key
pub find-map : {A B : Type 0} (test : B → Bool) (f : A → B) (xs : List A)
    → find test (map f xs) ≡ option_map f (find (λ x. test (f x)) xs)
find-map test f [] = refl
find-map test f (x ∷ xs) =
    elim (test (f x)) as (λ b. cond b (Some (f x)) (find test (map f xs))
    ≡ option_map f (cond b (Some x) (find (λ x. test (f x)) xs))) [
      | true ↦ refl
      | false ↦ find-map test f xs
    ]

pub find_text : (r : List ℕ) (xs : List (List ℕ))
    → find (λ n. bytes_eq n r) xs ≡ (if list_any (λ n. bytes_eq n r) xs then Some r else None)
find_text r [] = refl
find_text r (x ∷ xs) =
    elim (text_tells x r) [
      | inl w ↦ rw w.0 (ap Some w.1)
      | inr w ↦ rw w.0 (find_text r xs)
    ]

-- rows of keys that are not r
pub map_others : {B : Type 0} (f g : List ℕ → B) (r : List ℕ)
    → ((n : List ℕ) → bytes_eq n r ≡ false → f n ≡ g n) → (ns : List (List ℕ))
    → list_any (λ n. bytes_eq n r) ns ≡ false → map f ns ≡ map g ns
map_others f g r same [] none = refl
map_others f g r same (n ∷ ns) none =
    rw (
      same n (or_left (bytes_eq n r) (list_any (λ n. bytes_eq n r) ns) none),
      map_others f g r same ns (or_right (bytes_eq n r) (list_any (λ n. bytes_eq n r) ns) none),
    ) refl

-- rows that a change of some of them makes
pub updated-map : {A B : Type 0} (test : B → Bool) (change : B → B) (f g : A → B)
    → ((x : A) → g x ≡ (if test (f x) then change (f x) else f x)) → (xs : List A)
    → updated test change (map f xs) ≡ map g xs
updated-map test change f g same [] = refl
updated-map test change f g same (x ∷ xs) = rw (same x, updated-map test change f g same xs) refl

pub map_same : {A B : Type 0} (f g : A → B) → ((x : A) → f x ≡ g x) → (xs : List A)
    → map f xs ≡ map g xs
map_same f g same [] = refl
map_same f g same (x ∷ xs) = rw (same x, map_same f g same xs) refl

-- some more rows
pub in_order-append : {A : Type 0} (below : A → A → Bool) (xs ys : List A)
    → in_order below (xs ++ ys) ≡ put_all below xs (in_order below ys)
in_order-append below [] ys = refl
in_order-append below (x ∷ xs) ys = ap (put below x) (in_order-append below xs ys)
