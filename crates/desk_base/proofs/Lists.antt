-- Facts about lists.
use Rattle.std.proofs.Common.{◌≡◌, ◌∙◌, ◌+◌, ◌-◌, ◌<◌, ◌≤◌, ◌⊎◌, ℕ, zero, suc, Bool, true, false}
use Rattle.std.proofs.Common.{cond}
use Rattle.std.proofs.Common.{List, [], ◌∷◌, ◌++◌, length, get_or, take, drop, find, filter, subst}
use Rattle.std.proofs.Common.{Option, Some, None, inl, inr, is_some}
use Rattle.std.proofs.Common.{All, Contains, IsTrue, slice_get, append_assoc, add-one, add-zero}
use Rattle.std.proofs.Common.{drop-cons, map, ap, ap₂, sym, refl, arith}
use Rattle.std.specs.Prelude.{◌&&◌, ◌||◌, not}
use Rattle.std.specs.List.{AllZip, enumerate_from, flat_map, list_all, list_any, last_or}
use Rattle.std.proofs.lemmas.List.{flat_map_more, map_more, take_more}
use Rattle.std.proofs.lemmas.List.Elements.{All-get_or, All-tail, All-cons}

pub append_four : {A : Type 0} (a b c d : List A) → ((a ++ b) ++ c) ++ d ≡ a ++ (b ++ (c ++ d))
append_four a b c d = append_assoc (a ++ b) c d ∙ append_assoc a b (c ++ d)

-- ---- items at places

-- an item and those after it
pub drop_item : {A : Type 0} (xs : List A) (i : ℕ) (x : A) → i < length xs → x ≡ get_or xs i x
    → drop i xs ≡ x ∷ drop (i + 1) xs
drop_item xs i x lt is = rw (add-one i)
    (drop-cons xs i x lt ∙ ap (λ y. y ∷ drop (suc i) xs) (sym is))

pub take_whole : {A : Type 0} (xs : List A) (i : ℕ) → length xs ≤ i → take i xs ≡ xs
take_whole [] zero enough = refl
take_whole [] (suc i) enough = refl
take_whole (x ∷ xs) zero enough = absurd (omega arith)
take_whole (x ∷ xs) (suc i) enough = ap (λ l. x ∷ l) (take_whole xs i (omega arith))

pub item_at : {A : Type 0} (xs : List A) (i : ℕ) → i < length xs
    → (x : A) × (slice_get xs i ≡ Some x)
item_at [] i within = absurd (omega arith)
item_at (x ∷ xs) zero within = (x, refl)
item_at (x ∷ xs) (suc i) within = item_at xs i (omega arith)

pub none_listed : {A : Type 0} (x : A) → Contains [] x → ⊥
none_listed x at = omega (arith, at.1)

pub contains_cases : {A : Type 0} (x : A) (xs : List A) (y : A) → Contains (x ∷ xs) y
    → (x ≡ y) ⊎ Contains xs y
contains_cases x xs y (zero, within, is) = inl is
contains_cases x xs y (suc i, within, is) = inr (i, omega arith, is)

-- the last item is at the last place
pub last_at : {A : Type 0} (before : Option A) (x : A) (xs : List A)
    → slice_get (x ∷ xs) (length xs) ≡ last_or before (x ∷ xs)
last_at before x [] = refl
last_at before x (y ∷ xs) = last_at (Some x) y xs

pub last_is : {A : Type 0} (xs : List A) → slice_get xs (length xs - 1) ≡ last_or None xs
last_is [] = refl
last_is (x ∷ xs) = let e : length (x ∷ xs) - 1 ≡ length xs = omega arith in
    ap (slice_get (x ∷ xs)) e ∙ last_at None x xs

pub numbered_push : {A : Type 0} (n : ℕ) (xs : List A) (x : A)
    → enumerate_from n (xs ++ x ∷ []) ≡ enumerate_from n xs ++ (n + length xs, x) ∷ []
numbered_push n [] x = ap (λ k. (k, x) ∷ []) (sym (add-zero n))
numbered_push n (y ∷ xs) x = ap (λ zs. (n, y) ∷ zs)
    (numbered_push (n + 1) xs x ∙ ap (λ k. enumerate_from (n + 1) xs ++ (k, x) ∷ []) (omega arith))

pub zip_pushed : {A B : Type 0} (R : A → B → Type 0) (xs : List A) (ys : List B) (x : A) (y : B)
    → AllZip R xs ys → R x y → AllZip R (xs ++ x ∷ []) (ys ++ y ∷ [])
zip_pushed R [] [] x y zip r = (r, tt)
zip_pushed R [] (v ∷ vs) x y zip r = absurd zip
zip_pushed R (u ∷ us) [] x y zip r = absurd zip
zip_pushed R (u ∷ us) (v ∷ vs) x y zip r = (zip.0, zip_pushed R us vs x y zip.1 r)

pub is_there : {A : Type 0} (o : Option A) → is_some o ≡ true → (x : A) × (o ≡ Some x)
is_there None e = cc
is_there (Some x) e = (x, refl)

-- ---- items that pass a test

pub all_test : (test : ℕ → Bool) (xs : List ℕ) → All (λ b. IsTrue (test b)) xs
    → list_all test xs ≡ true
all_test test [] all = refl
all_test test (x ∷ xs) all =
    let head : test x ≡ true = All-get_or (λ b. IsTrue (test b)) (x ∷ xs) 0 0 (omega arith) all in
    ap (λ v. v && list_all test xs) head
    ∙ all_test test xs (All-tail (λ b. IsTrue (test b)) x xs all)

pub test_all : (test : ℕ → Bool) (xs : List ℕ) → list_all test xs ≡ true
    → All (λ b. IsTrue (test b)) xs
test_all test [] pass = λ k d lt. absurd (omega arith)
test_all test (x ∷ xs) pass = step (test_all test xs) (test x) refl pass where
  step : (list_all test xs ≡ true → All (λ b. IsTrue (test b)) xs) → (b : Bool) → test x ≡ b
      → (b && list_all test xs) ≡ true → All (λ b. IsTrue (test b)) (x ∷ xs)
  step more true is rest = All-cons (λ b. IsTrue (test b)) x xs is (more rest)
  step more false is rest = absurd (cc)

pub filter-true : {A : Type 0} (xs : List A) → filter (λ x. true) xs ≡ xs
filter-true [] = refl
filter-true (x ∷ xs) = ap (λ l. x ∷ l) (filter-true xs)

pub filter_none : {A : Type 0} (test : A → Bool) (xs : List A) → list_any test xs ≡ false
    → filter test xs ≡ []
filter_none test [] none = refl
filter_none test (x ∷ xs) none = step (filter_none test xs) (test x) refl none where
  step : (list_any test xs ≡ false → filter test xs ≡ []) → (b : Bool) → test x ≡ b
      → (b || list_any test xs) ≡ false → cond b (x ∷ filter test xs) (filter test xs) ≡ []
  step rest true is e = cc
  step rest false is e = rest e

pub filter_twice : {A : Type 0} (p q : A → Bool) (xs : List A)
    → filter (λ x. not (q x)) (filter (λ x. not (p x)) xs) ≡ filter (λ x. not (p x || q x)) xs
filter_twice p q [] = refl
filter_twice p q (x ∷ xs) = step (filter_twice p q xs) (p x) (q x) refl refl where
  step : filter (λ x. not (q x)) (filter (λ x. not (p x)) xs) ≡ filter (λ x. not (p x || q x)) xs
      → (b c : Bool) → p x ≡ b → q x ≡ c
      → filter (λ x. not (q x)) (filter (λ x. not (p x)) (x ∷ xs))
      ≡ filter (λ x. not (p x || q x)) (x ∷ xs)
  step more true c is it = rw is more
  step more false true is it = rw (is, it) more
  step more false false is it = rw (is, it) (ap (λ l. x ∷ l) more)

-- what is found passes the test
pub found_passes : {A : Type 0} (test : A → Bool) (xs : List A) (x : A) → find test xs ≡ Some x
    → test x ≡ true
found_passes test [] x e = cc
found_passes test (y ∷ ys) x e = step (found_passes test ys x) (test y) refl e where
  step : (find test ys ≡ Some x → test x ≡ true) → (b : Bool) → test y ≡ b
      → cond b (Some y) (find test ys) ≡ Some x → test x ≡ true
  step rest true is f = let same : y ≡ x = cc in subst (λ z. test z ≡ true) same is
  step rest false is f = rest f

pub first_found : {A : Type 0} (test : A → Bool) (xs : List A)
    → slice_get (filter test xs) 0 ≡ find test xs
first_found test [] = refl
first_found test (x ∷ xs) = elim (test x) as
    (λ b. slice_get (cond b (x ∷ filter test xs) (filter test xs)) 0
    ≡ cond b (Some x) (find test xs)) [ true ↦ refl | false ↦ first_found test xs ]

-- ---- pieces joined

-- the pieces of one more item, after others
pub joined_more : {X Y : Type 0} (f : X → List Y) (xs : List X) (i : ℕ) (x : X)
    (start before after piece : List Y) → i < length xs
    → x ≡ get_or xs i x → before ≡ start ++ flat_map f (take i xs) → piece ≡ f x
    → after ≡ before ++ piece
    → after ≡ start ++ flat_map f (take (i + 1) xs)
joined_more f xs i x start before after piece inside at so_far made pushed =
    pushed ∙ ap₂ (λ a b. a ++ b) so_far (made ∙ ap f at)
    ∙ flat_map_more f start (take i xs) (get_or xs i x)
    ∙ ap (λ ys. start ++ flat_map f ys) (sym (take_more xs i x inside))

-- the same, by what the items show
pub mapped_more : {X Y A : Type 0} (f : Y → List A) (g : X → Y) (xs : List X) (i : ℕ) (d : X)
    (start before after : List A) → i < length xs
    → before ≡ start ++ flat_map f (map g (take i xs)) → after ≡ before ++ f (g (get_or xs i d))
    → after ≡ start ++ flat_map f (map g (take (i + 1) xs))
mapped_more {X} {Y} f g xs i d start before after inside so_far added =
    let y = g (get_or xs i d) in
    added ∙ ap (λ l. l ++ f y) so_far ∙ flat_map_more f start (map g (take i xs)) y
    ∙ ap (λ (ys : List Y). start ++ flat_map f ys) (sym (map_more g xs i d inside))
