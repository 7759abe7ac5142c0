-- The places of rows, kept by their keys.
use Rattle.std.proofs.Common.{◌≡◌, ℕ, zero, suc, ◌+◌, ◌-◌, Bool, true, false, cond, List, [], ◌∷◌}
use Rattle.std.proofs.Common.{◌++◌, length, Some, None, sym, refl, ap, ◌∙◌, arith}
use Rattle.std.specs.Prelude.{if◌then◌else◌, find, filter, not, slice_get, Option}
use Rattle.std.specs.List.{position_from}
use Rattle.std.specs.Option.{option_map}
use Rattle.desk_model.specs.Lists.{put, or_else, over, ascends}
use Rattle.std.proofs.lemmas.List.Elements.{filter_agree}
use Rattle.std.proofs.lemmas.Bool.{and_from, not-true}
use Rattle.desk_sorted.specs.Blocks.{last_of}
use Rattle.desk_sorted.proofs.Halving.{last_at}
use Rattle.desk_model.proofs.Orders.{IsOrder}
use Rattle.desk_base.proofs.Bools.{and_left, and_right}
use Rattle.desk_base.proofs.Lists.{first_found}

-- one more row after the others

over_later : {A : Type 0} (below : A → A → Bool) → IsOrder below → (y z : A) (ws : List A)
    → below z y ≡ false → over below z ws ≡ true → over below y ws ≡ true
over_later below o y z [] e all = refl
over_later below o y z (w ∷ ws) e all =
    and_from (not (below w y)) (over below y ws)
    (ap not (not_below (below w y) refl))
    (over_later below o y z ws e (and_right (not (below w z)) (over below z ws) all))
  where
    here : below w z ≡ false
    here = not-true (below w z) (and_left (not (below w z)) (over below z ws) all)

    not_below : (b : Bool) → below w y ≡ b → b ≡ false
    not_below true f = sym (o.between w y z f e) ∙ here
    not_below false f = refl

push_on : {A : Type 0} (below : A → A → Bool) → IsOrder below → (y : A) (ys : List A) (x : A)
    → below x (last_of y ys) ≡ false → ascends below (y ∷ ys) ≡ true
    → ascends below (y ∷ (ys ++ x ∷ [])) ≡ true
push_on below o y [] x e up = rw e refl
push_on below o y (z ∷ zs) x e up =
    let first = and_left (over below y (z ∷ zs)) (ascends below (z ∷ zs)) up in
    let rest = push_on below o z zs x e
    (and_right (over below y (z ∷ zs)) (ascends below (z ∷ zs)) up) in
    let here : below z y ≡ false =
    not-true (below z y) (and_left (not (below z y)) (over below y zs) first) in
    and_from (over below y (z ∷ (zs ++ x ∷ []))) (ascends below (z ∷ (zs ++ x ∷ [])))
    (and_from (not (below z y)) (over below y (zs ++ x ∷ [])) (ap not here)
    (over_later below o y z (zs ++ x ∷ []) here
    (and_left (over below z (zs ++ x ∷ [])) (ascends below (zs ++ x ∷ [])) rest)))
    rest

pub ascends-push : {A : Type 0} (below : A → A → Bool) → IsOrder below → (ys : List A) (last x : A)
    → Some last ≡ slice_get ys (length ys - 1) → below x last ≡ false → ascends below ys ≡ true
    → ascends below (ys ++ x ∷ []) ≡ true
ascends-push below o [] last x is e up = refl
ascends-push below o (y ∷ ys) last x is e up =
    let count : length (y ∷ ys) - 1 ≡ length ys = omega arith in
    let found : Some last ≡ Some (last_of y ys) = is
    ∙ (ap (slice_get (y ∷ ys)) count ∙ last_at y ys) in
    let same : last ≡ last_of y ys = cc in
    push_on below o y ys x (ap (below x) (sym same) ∙ e) up

-- what passes a test, among rows found by another test

within_step : {A : Type 0} (p t : A → Bool) → ((x : A) → p x ≡ true → t x ≡ true)
    → (x : A) (xs : List A) (a b : Bool) → t x ≡ a → p x ≡ b → filter p (filter t xs) ≡ filter p xs
    → filter p (cond a (x ∷ filter t xs) (filter t xs)) ≡ cond b (x ∷ filter p xs) (filter p xs)
within_step p t h x xs true b e f rest = rw (f, rest) refl
within_step p t h x xs false true e f rest = let yes : t x ≡ true = h x f in cc
within_step p t h x xs false false e f rest = rest

pub within : {A : Type 0} (p t : A → Bool) → ((x : A) → p x ≡ true → t x ≡ true) → (xs : List A)
    → filter p (filter t xs) ≡ filter p xs
within p t h [] = refl
within p t h (x ∷ xs) = within_step p t h x xs (t x) (p x) refl refl (within p t h xs)

pub filter_within : {A : Type 0} (p t : A → Bool) → ((x : A) → p x ≡ true → t x ≡ true)
    → (xs ys : List A) → filter t xs ≡ filter t ys → filter p xs ≡ filter p ys
filter_within p t h xs ys e = sym (within p t h xs) ∙ (ap (filter p) e ∙ within p t h ys)

-- the first that is sought, among rows that include all of them
pub found_among : {A : Type 0} (p q : A → Bool) → ((x : A) → p x ≡ q x) → (xs ys : List A)
    → filter p xs ≡ filter p ys → find q xs ≡ find p ys
found_among p q h xs ys e =
    sym (first_found q xs) ∙ (ap (λ l. slice_get l 0) (filter_agree q p (λ x. sym (h x)) xs ∙ e)
    ∙ first_found p ys)

-- the first that passes, after one is put in

find_none : {A : Type 0} (below : A → A → Bool) → IsOrder below → (t : A → Bool)
    → ((x y : A) → t x ≡ true → t y ≡ true → below x y ≡ false) → (e y : A) (zs : List A)
    → t e ≡ true → below e y ≡ true → over below y zs ≡ true → find t zs ≡ None
find_none below o t alike e y [] te up all = refl
find_none below o t alike e y (z ∷ zs) te up all =
    rw (fails (t z) refl) (find_none below o t alike e y zs te up
    (and_right (not (below z y)) (over below y zs) all))
  where
    here : below z y ≡ false
    here = not-true (below z y) (and_left (not (below z y)) (over below y zs) all)

    fails : (b : Bool) → t z ≡ b → b ≡ false
    fails true f = sym (o.between e y z up here) ∙ alike e z te f
    fails false f = refl

first_fails : {A : Type 0} (below : A → A → Bool) (t : A → Bool)
    → ((x y : A) → t x ≡ true → t y ≡ true → below x y ≡ false) → (e y : A) (b : Bool) → t y ≡ b
    → t e ≡ true → below e y ≡ true → b ≡ false
first_fails below t alike e y true f te up = sym up ∙ alike e y te f
first_fails below t alike e y false f te up = refl

or_none : {A : Type 0} (r : Option A) → r ≡ or_else r None
or_none None = refl
or_none (Some x) = refl

put_here : {A : Type 0} (below : A → A → Bool) → IsOrder below → (t : A → Bool)
    → ((x y : A) → t x ≡ true → t y ≡ true → below x y ≡ false) → (e y : A) (ys : List A) (b : Bool)
    → t e ≡ b → below e y ≡ true → over below y ys ≡ true
    → cond b (Some e) (find t (y ∷ ys)) ≡ or_else (find t (y ∷ ys)) (cond b (Some e) None)
put_here below o t alike e y ys true te up all =
    rw (first_fails below t alike e y (t y) refl te up, find_none below o t alike e y ys te up all)
    refl
put_here below o t alike e y ys false te up all = or_none (find t (y ∷ ys))

put_step : {A : Type 0} (below : A → A → Bool) → IsOrder below → (t : A → Bool)
    → ((x y : A) → t x ≡ true → t y ≡ true → below x y ≡ false) → (e y : A) (ys : List A) (b : Bool)
    → below e y ≡ b → ascends below (y ∷ ys) ≡ true
    → find t (put below e ys) ≡ or_else (find t ys) (cond (t e) (Some e) None)
    → find t (if b then e ∷ y ∷ ys else y ∷ put below e ys)
    ≡ or_else (find t (y ∷ ys)) (cond (t e) (Some e) None)
put_step below o t alike e y ys true f up rest = put_here below o t alike e y ys (t e) refl f
    (and_left (over below y ys) (ascends below ys) up)
put_step below o t alike e y ys false f up rest =
    ap (cond (t y) (Some y)) rest
    ∙ elim (t y) as (λ b. cond b (Some y) (or_else (find t ys) (cond (t e) (Some e) None))
    ≡ or_else (cond b (Some y) (find t ys)) (cond (t e) (Some e) None))
    [ true ↦ refl | false ↦ refl ]

-- a row that is put in is found as if it came last
pub find-put : {A : Type 0} (below : A → A → Bool) → IsOrder below → (t : A → Bool)
    → ((x y : A) → t x ≡ true → t y ≡ true → below x y ≡ false) → (e : A) (xs : List A)
    → ascends below xs ≡ true → find t (put below e xs)
    ≡ or_else (find t xs) (cond (t e) (Some e) None)
find-put below o t alike e [] up = refl
find-put below o t alike e (y ∷ ys) up =
    put_step below o t alike e y ys (below e y) refl up
    (find-put below o t alike e ys (and_right (over below y ys) (ascends below ys) up))

position-push : {A : Type 0} (p : A → Bool) (i : ℕ) (xs : List A) (x : A)
    → position_from p i (xs ++ x ∷ [])
    ≡ or_else (position_from p i xs) (cond (p x) (Some (i + length xs)) None)
position-push p i [] x = let here : i ≡ i + 0 = omega arith in
    ap (λ n. cond (p x) (Some n) None) here
position-push p i (y ∷ ys) x =
    let next : i + 1 + length ys ≡ i + suc (length ys) = omega arith in
    let rest = position-push p (i + 1) ys x
    ∙ ap (λ n. or_else (position_from p (i + 1) ys) (cond (p x) (Some n) None)) next in
    elim (p y) as (λ b. cond b (Some i) (position_from p (i + 1) (ys ++ x ∷ []))
    ≡ or_else (cond b (Some i) (position_from p (i + 1) ys))
    (cond (p x) (Some (i + suc (length ys))) None)) [ true ↦ refl | false ↦ rest ]

map-or_else : {A B : Type 0} (f : A → B) (a b : Option A)
    → option_map f (or_else a b) ≡ or_else (option_map f a) (option_map f b)
map-or_else f None b = refl
map-or_else f (Some x) b = refl

map-cond : {A B : Type 0} (f : A → B) (b : Bool) (x : A)
    → option_map f (cond b (Some x) None) ≡ cond b (Some (f x)) None
map-cond f true x = refl
map-cond f false x = refl

-- the place of the first row that passes, kept when there is one more row
pub place_kept : {E R : Type 0} (below : E → E → Bool) → IsOrder below → (t : E → Bool)
    → ((x y : E) → t x ≡ true → t y ≡ true → below x y ≡ false)
    → (p : R → Bool) (place : E → ℕ) (e : E) (entries : List E) (row : R) (rows : List R)
    → ascends below entries ≡ true → t e ≡ p row → place e ≡ length rows
    → option_map place (find t entries) ≡ position_from p 0 rows
    → option_map place (find t (put below e entries)) ≡ position_from p 0 (rows ++ row ∷ [])
place_kept below o t alike p place e entries row rows up same at kept =
    let here : place e ≡ 0 + length rows = omega (arith, at) in
    ap (option_map place) (find-put below o t alike e entries up)
    ∙ (map-or_else place (find t entries) (cond (t e) (Some e) None)
    ∙ (ap (λ r. or_else r (option_map place (cond (t e) (Some e) None))) kept
    ∙ (ap (or_else (position_from p 0 rows))
    (map-cond place (t e) e ∙ (ap (λ b. cond b (Some (place e)) None) same
    ∙ ap (λ n. cond (p row) (Some n) None) here))
    ∙ sym (position-push p 0 rows row))))

-- the row at a place

found_step : {A : Type 0} (p : A → Bool) (i n : ℕ) (x : A) (xs : List A) (b : Bool)
    → cond b (Some i) (position_from p (i + 1) xs) ≡ Some n
    → (position_from p (i + 1) xs ≡ Some n
    → (k : ℕ) × ((n ≡ i + 1 + k) × (slice_get xs k ≡ find p xs)))
    → (k : ℕ) × ((n ≡ i + k) × (slice_get (x ∷ xs) k ≡ cond b (Some x) (find p xs)))
found_step p i n x xs true e rest = let is : i ≡ n = cc in let at : n ≡ i + 0 = omega (arith, is) in
    (zero, (at, refl))
found_step p i n x xs false e rest = let r = rest e in
    let at : n ≡ i + suc r.0 = omega (arith, r.1.0) in (suc r.0, (at, r.1.1))

found : {A : Type 0} (p : A → Bool) (i n : ℕ) (xs : List A) → position_from p i xs ≡ Some n
    → (k : ℕ) × ((n ≡ i + k) × (slice_get xs k ≡ find p xs))
found p i n [] e = cc
found p i n (x ∷ xs) e = found_step p i n x xs (p x) e (λ f. found p (i + 1) n xs f)

pub row_at : {A : Type 0} (p : A → Bool) (n : ℕ) (xs : List A) → position_from p 0 xs ≡ Some n
    → slice_get xs n ≡ find p xs
row_at p n xs e = let r = found p 0 n xs e in let same : n ≡ r.0 = omega (arith, r.1.0) in
    ap (slice_get xs) same ∙ r.1.1

none_step : {A : Type 0} (p : A → Bool) (i : ℕ) (x : A) (xs : List A) (b : Bool)
    → cond b (Some i) (position_from p (i + 1) xs) ≡ None
    → (position_from p (i + 1) xs ≡ None → find p xs ≡ None) → cond b (Some x) (find p xs) ≡ None
none_step p i x xs true e rest = cc
none_step p i x xs false e rest = rest e

pub no_row : {A : Type 0} (p : A → Bool) (i : ℕ) (xs : List A) → position_from p i xs ≡ None
    → find p xs ≡ None
no_row p i [] e = refl
no_row p i (x ∷ xs) e = none_step p i x xs (p x) e (no_row p (i + 1) xs)
