-- Parts put in their places by binary search.
use Rattle.std.proofs.Common.{◌≡◌, ℕ, zero, suc, ◌+◌, ◌<◌, Bool, true, false, List, [], ◌∷◌, ◌++◌}
use Rattle.std.proofs.Common.{length, map, take, drop, get_or, Bor, sym, refl, ap, subst, ◌∙◌}
use Rattle.std.proofs.Common.{arith}
use Rattle.std.specs.Prelude.{if◌then◌else◌}
use Rattle.std.specs.Str.{bytes_eq}
use Rattle.std.proofs.lemmas.List.{take-append-drop, map-append, length-map, drop-map, take-map}
use Rattle.std.proofs.Math.ListN.{get_or-map}
use Rattle.std.proofs.lemmas.Slice.Eq.{bytes_eq-Decides}
use Rattle.std.proofs.lemmas.Bool.{false_from_ne_true}
use Rattle.std.proofs.lemmas.Simd.{map-map}
use Rattle.desk_model.specs.Texts.{text_below}
use Rattle.desk_texts.specs.Documents.{put_by, sorted_by}
use Rattle.desk_texts.specs.Rising.{Each, Rises, IsLower, is_below_first}
use Rattle.desk_texts.proofs.Orders.{below_trans, below_asym, same_text, below_self}

each_at : {A : Type 0} (P : A → Type 0) (xs : List A) (i : ℕ) (d : A) → i < length xs → Each P xs
    → P (get_or xs i d)
each_at P [] i d within each = absurd (omega (arith, within))
each_at P (x ∷ xs) zero d within each = each.0
each_at P (x ∷ xs) (suc i) d within each = each_at P xs i d (omega (arith, within)) each.1

-- if one is below, so are all before it
pub below_up_to : (ids : List (List ℕ)) (id : List ℕ) (m : ℕ) (d : List ℕ) → Rises ids
    → m < length ids → text_below (get_or ids m d) id ≡ true
    → Each (λ x. text_below x id ≡ true) (take (suc m) ids)
below_up_to [] id m d up within e = absurd (omega (arith, within))
below_up_to (x ∷ xs) id zero d up within e = (e, tt)
below_up_to (x ∷ xs) id (suc m) d up within e =
    let w : m < length xs = omega (arith, within) in (
      below_trans x (get_or xs m d) id (each_at (λ y. text_below x y ≡ true) xs m d w up.0) e,
      below_up_to xs id m d up.1 w e,
    )

not_below : (x y id : List ℕ) (b : Bool) → text_below y id ≡ b → text_below x y ≡ true
    → text_below x id ≡ false → b ≡ false
not_below x y id true e f g = sym (below_trans x y id f e) ∙ g
not_below x y id false e f g = refl

none_below : (x id : List ℕ) (ys : List (List ℕ)) → text_below x id ≡ false
    → Each (λ y. text_below x y ≡ true) ys → Each (λ y. text_below y id ≡ false) ys
none_below x id [] e each = tt
none_below x id (y ∷ ys) e each = (
  not_below x y id (text_below y id) refl each.0 e,
  none_below x id ys e each.1,
)

-- if one isn't below, neither is any after it
pub none_below_from : (ids : List (List ℕ)) (id : List ℕ) (m : ℕ) (d : List ℕ) → Rises ids
    → m < length ids → text_below (get_or ids m d) id ≡ false
    → Each (λ x. text_below x id ≡ false) (drop m ids)
none_below_from [] id m d up within e = absurd (omega (arith, within))
none_below_from (x ∷ xs) id zero d up within e = (e, none_below x id xs e up.0)
none_below_from (x ∷ xs) id (suc m) d up within e = none_below_from xs id m d up.1
    (omega (arith, within)) e

-- a text that is below another is a different one
pub other_text : (a b : List ℕ) → text_below b a ≡ true → bytes_eq a b ≡ false
other_text a b e = false_from_ne_true (bytes_eq a b)
    (λ same. let is : a ≡ b = (bytes_eq-Decides a b).0 same in
    true_false (sym e ∙ below_self a (text_below b a) (ap (λ c. text_below c a) is)))
  where
    true_false : true ≡ false → ⊥
    true_false e = cc

-- x goes after those that are below it
put_behind : {A : Type 0} (id : A → List ℕ) (x : A) (xs : List A) (n : ℕ)
    → Each (λ y. text_below y (id x) ≡ true) (take n (map id xs))
    → put_by id x xs ≡ take n xs ++ put_by id x (drop n xs)
put_behind id x [] zero each = refl
put_behind id x [] (suc n) each = refl
put_behind id x (y ∷ ys) zero each = refl
put_behind id x (y ∷ ys) (suc n) each =
    let above : text_below (id x) (id y) ≡ false = below_asym (id y) (id x) each.0 in
    let other : bytes_eq (id x) (id y) ≡ false = other_text (id x) (id y) each.0 in
    ap (λ b. if b then x ∷ y ∷ ys
    else (if bytes_eq (id x) (id y) then y ∷ ys else y ∷ put_by id x ys)) above
    ∙ (ap (λ b. if b then y ∷ ys else y ∷ put_by id x ys) other
    ∙ ap (λ l. y ∷ l) (put_behind id x ys n each.1))

-- x goes before the first that isn't below it
put_first : {A : Type 0} (id : A → List ℕ) (x : A) (ys : List A)
    → is_below_first (id x) (map id ys) ≡ true → put_by id x ys ≡ x ∷ ys
put_first id x [] e = refl
put_first id x (y ∷ ys) e = ap (λ b. if b then x ∷ y ∷ ys
    else (if bytes_eq (id x) (id y) then y ∷ ys else y ∷ put_by id x ys)) e

put_same : {A : Type 0} (id : A → List ℕ) (x : A) (ys : List A)
    → Each (λ y. text_below y (id x) ≡ false) (map id ys)
    → is_below_first (id x) (map id ys) ≡ false → put_by id x ys ≡ ys
put_same id x [] each e = cc
put_same id x (y ∷ ys) each e =
    let same : id x ≡ id y = same_text (id x) (id y) e each.0 in
    let found : bytes_eq (id x) (id y) ≡ true = (bytes_eq-Decides (id x) (id y)).1 same in
    ap (λ b. if b then x ∷ y ∷ ys
    else (if bytes_eq (id x) (id y) then y ∷ ys else y ∷ put_by id x ys)) e
    ∙ ap (λ b. if b then y ∷ ys else y ∷ put_by id x ys) found

-- a part whose id isn't there goes in at its place
pub put_new : {A : Type 0} (id : A → List ℕ) (x : A) (xs : List A) (n : ℕ)
    → IsLower (map id xs) (id x) n → is_below_first (id x) (drop n (map id xs)) ≡ true
    → put_by id x xs ≡ take n xs ++ x ∷ drop n xs
put_new id x xs n at new =
    put_behind id x xs n at.before
    ∙ ap (λ l. take n xs ++ l) (put_first id x (drop n xs)
    (ap (is_below_first (id x)) (sym (drop-map id n xs)) ∙ new))

-- and if its id is there, the others stay as they are
pub put_old : {A : Type 0} (id : A → List ℕ) (x : A) (xs : List A) (n : ℕ)
    → IsLower (map id xs) (id x) n → is_below_first (id x) (drop n (map id xs)) ≡ false
    → put_by id x xs ≡ xs
put_old id x xs n at old =
    put_behind id x xs n at.before
    ∙ (ap (λ l. take n xs ++ l) (put_same id x (drop n xs)
    (subst (λ l. Each (λ y. text_below y (id x) ≡ false) l) (drop-map id n xs) at.behind)
    (ap (is_below_first (id x)) (sym (drop-map id n xs)) ∙ old))
    ∙ take-append-drop n xs)

each_below : (x y : List ℕ) (zs : List (List ℕ)) → text_below x y ≡ true
    → Each (λ z. text_below y z ≡ true) zs → Each (λ z. text_below x z ≡ true) zs
each_below x y [] e each = tt
each_below x y (z ∷ zs) e each = (below_trans x y z e each.0, each_below x y zs e each.1)

each_put : {A : Type 0} (P : List ℕ → Type 0) (id : A → List ℕ) (x : A) (ys : List A) → P (id x)
    → Each P (map id ys) → Each P (map id (put_by id x ys))
each_put P id x [] p each = (p, tt)
each_put P id x (y ∷ ys) p each =
    elim (text_below (id x) (id y)) as
    (λ b. Each P (map id (if b then x ∷ y ∷ ys
    else (if bytes_eq (id x) (id y) then y ∷ ys else y ∷ put_by id x ys)))) [
      | true ↦ (p, each)
      | false ↦ elim (bytes_eq (id x) (id y)) as
          (λ b. Each P (map id (if b then y ∷ ys else y ∷ put_by id x ys))) [
            | true ↦ each
            | false ↦ (each.0, each_put P id x ys p each.1)
          ]
    ]

above_other : (a b : List ℕ) (c : Bool) → text_below b a ≡ c → text_below a b ≡ false
    → bytes_eq a b ≡ false → c ≡ true
above_other a b true e f g = refl
above_other a b false e f g = let found : bytes_eq a b ≡ true =
    (bytes_eq-Decides a b).1 (same_text a b f e) in cc

rises_step : {A : Type 0} (id : A → List ℕ) (x y : A) (ys : List A) (b c : Bool)
    → text_below (id x) (id y) ≡ b → bytes_eq (id x) (id y) ≡ c → Rises (map id (y ∷ ys))
    → Rises (map id (put_by id x ys))
    → Rises (map id (if b then x ∷ y ∷ ys else (if c then y ∷ ys else y ∷ put_by id x ys)))
rises_step id x y ys true c e f up rest = ((e, each_below (id x) (id y) (map id ys) e up.0), up)
rises_step id x y ys false true e f up rest = up
rises_step id x y ys false false e f up rest = (
  each_put (λ z. text_below (id y) z ≡ true) id x ys
      (above_other (id x) (id y) (text_below (id y) (id x)) refl e f) up.0,
  rest,
)

-- parts that are in order still are with one more
pub rises_put : {A : Type 0} (id : A → List ℕ) (x : A) (xs : List A) → Rises (map id xs)
    → Rises (map id (put_by id x xs))
rises_put id x [] up = (tt, tt)
rises_put id x (y ∷ ys) up = rises_step id x y ys (text_below (id x) (id y))
    (bytes_eq (id x) (id y)) refl refl up (rises_put id x ys up.1)

abbrev pub put_all_by : {A : Type 0} → (A → List ℕ) → List A → List A → List A
put_all_by id [] ys = ys
put_all_by id (x ∷ xs) ys = put_by id x (put_all_by id xs ys)

-- the last of some is put in first
pub put_last : {A : Type 0} (id : A → List ℕ) (xs : List A) (x : A) (ys : List A)
    → put_all_by id (xs ++ x ∷ []) ys ≡ put_all_by id xs (put_by id x ys)
put_last id [] x ys = refl
put_last id (y ∷ xs) x ys = ap (put_by id y) (put_last id xs x ys)

pub put_all_none : {A : Type 0} (id : A → List ℕ) (xs : List A)
    → put_all_by id xs [] ≡ sorted_by id xs
put_all_none id [] = refl
put_all_none id (x ∷ xs) = ap (put_by id x) (put_all_none id xs)

-- the first of those from a place on
pub first_from : {A : Type 0} (id : A → List ℕ) (x : List ℕ) (xs : List A) (n : ℕ) (d : A)
    → n < length xs → is_below_first x (drop n (map id xs)) ≡ text_below x (id (get_or xs n d))
first_from id x [] n d within = absurd (omega (arith, within))
first_from id x (y ∷ ys) zero d within = refl
first_from id x (y ∷ ys) (suc n) d within = first_from id x ys n d (omega (arith, within))

-- there is nothing from the end on
pub first_at_end : {A : Type 0} (id : A → List ℕ) (x : List ℕ) (xs : List A) (n : ℕ) → n ≡ length xs
    → is_below_first x (drop n (map id xs)) ≡ true
first_at_end id x [] zero e = refl
first_at_end id x [] (suc n) e = refl
first_at_end id x (y ∷ ys) zero e = absurd (omega (arith, e))
first_at_end id x (y ∷ ys) (suc n) e = first_at_end id x ys n (omega (arith, e))

-- an item inserted into a list, seen through a map
pub map_insert : {A B : Type 0} (f : A → B) (xs : List A) (n : ℕ) (x : A)
    → map f (take n xs ++ x ∷ drop n xs) ≡ take n (map f xs) ++ f x ∷ drop n (map f xs)
map_insert f xs n x = map-append f (take n xs) (x ∷ drop n xs)
    ∙ (ap (λ l. l ++ f x ∷ map f (drop n xs)) (sym (take-map f n xs))
    ∙ ap (λ l. take n (map f xs) ++ f x ∷ l) (sym (drop-map f n xs)))

-- borrowed parts put in their places

module _ {P : Type 0} (id : P → List ℕ) where
  abbrev pub lent_ids : List (Bor P) → List (List ℕ)
  lent_ids xs = map (λ p. id p.now) xs

  abbrev pub lent : List (Bor P) → List P
  lent xs = map (λ p. p.now) xs

  ids_of_lent : (xs : List (Bor P)) → lent_ids xs ≡ map id (lent xs)
  ids_of_lent xs = sym (map-map id (λ p. p.now) xs)

  pub lent_new : (x : Bor P) (xs : List (Bor P)) (n : ℕ) → IsLower (lent_ids xs) (id x.now) n
      → is_below_first (id x.now) (drop n (lent_ids xs)) ≡ true
      → lent (take n xs ++ x ∷ drop n xs) ≡ put_by id x.now (lent xs)
  lent_new x xs n at new =
      map_insert (λ p. p.now) xs n x
      ∙ sym (put_new id x.now (lent xs) n (subst (λ l. IsLower l (id x.now) n) (ids_of_lent xs) at)
      (ap (λ l. is_below_first (id x.now) (drop n l)) (sym (ids_of_lent xs)) ∙ new))

  -- a part that goes in before all others
  pub lent_first : (x : Bor P) (xs : List (Bor P))
      → is_below_first (id x.now) (drop 0 (lent_ids xs)) ≡ true
      → lent (x ∷ xs) ≡ put_by id x.now (lent xs)
  lent_first x [] new = refl
  lent_first x (y ∷ ys) new = sym (put_first id x.now (lent (y ∷ ys)) new)

  pub lent_old : (x : Bor P) (xs : List (Bor P)) (n : ℕ) → IsLower (lent_ids xs) (id x.now) n
      → is_below_first (id x.now) (drop n (lent_ids xs)) ≡ false
      → lent xs ≡ put_by id x.now (lent xs)
  lent_old x xs n at old =
      sym (put_old id x.now (lent xs) n (subst (λ l. IsLower l (id x.now) n) (ids_of_lent xs) at)
      (ap (λ l. is_below_first (id x.now) (drop n l)) (sym (ids_of_lent xs)) ∙ old))

  pub lent_rises : (x : P) (xs ys : List (Bor P)) → Rises (lent_ids xs)
      → lent ys ≡ put_by id x (lent xs) → Rises (lent_ids ys)
  lent_rises x xs ys up same =
      subst Rises (sym (ids_of_lent ys))
      (subst (λ l. Rises (map id l)) (sym same)
      (rises_put id x (lent xs) (subst Rises (ids_of_lent xs) up)))

  -- if a middle part is below an id, and if it isn't
  pub lent_up_to : (xs : List (Bor P)) (x : List ℕ) (m : ℕ) → Rises (lent_ids xs) → m < length xs
      → ((d : Bor P) → text_below (id (get_or xs m d).now) x ≡ true)
      → Each (λ y. text_below y x ≡ true) (take (m + 1) (lent_ids xs))
  lent_up_to [] x m up within e = absurd (omega (arith, within))
  lent_up_to (y ∷ ys) x m up within e =
      let fits : m < length (lent_ids (y ∷ ys)) =
      subst (λ n. m < n) (sym (length-map (y ∷ ys) (λ p. id p.now))) within in
      let here = ap (λ t. text_below t x) (get_or-map (λ p. id p.now) (y ∷ ys) m y) ∙ e y in
      let next : suc m ≡ m + 1 = omega arith in
      subst (λ n. Each (λ z. text_below z x ≡ true) (take n (lent_ids (y ∷ ys)))) next
      (below_up_to (lent_ids (y ∷ ys)) x m (id y.now) up fits here)

  pub lent_from : (xs : List (Bor P)) (x : List ℕ) (m : ℕ) → Rises (lent_ids xs) → m < length xs
      → ((d : Bor P) → text_below (id (get_or xs m d).now) x ≡ false)
      → Each (λ y. text_below y x ≡ false) (drop m (lent_ids xs))
  lent_from [] x m up within e = absurd (omega (arith, within))
  lent_from (y ∷ ys) x m up within e =
      let fits : m < length (lent_ids (y ∷ ys)) =
      subst (λ n. m < n) (sym (length-map (y ∷ ys) (λ p. id p.now))) within in
      let here = ap (λ t. text_below t x) (get_or-map (λ p. id p.now) (y ∷ ys) m y) ∙ e y in
      none_below_from (lent_ids (y ∷ ys)) x m (id y.now) up fits here

put-map : {A B : Type 0} (f : A → B) (id : B → List ℕ) (x : A) (xs : List A)
    → map f (put_by (λ a. id (f a)) x xs) ≡ put_by id (f x) (map f xs)
put-map f id x [] = refl
put-map f id x (y ∷ ys) =
    elim (text_below (id (f x)) (id (f y))) as
    (λ b. map f (if b then x ∷ y ∷ ys
    else (if bytes_eq (id (f x)) (id (f y)) then y ∷ ys else y ∷ put_by (λ a. id (f a)) x ys))
    ≡ (if b then f x ∷ f y ∷ map f ys
    else (if bytes_eq (id (f x)) (id (f y)) then f y ∷ map f ys
    else f y ∷ put_by id (f x) (map f ys)))) [
      | true ↦ refl
      | false ↦ elim (bytes_eq (id (f x)) (id (f y))) as
          (λ b. map f (if b then y ∷ ys else y ∷ put_by (λ a. id (f a)) x ys)
          ≡ (if b then f y ∷ map f ys else f y ∷ put_by id (f x) (map f ys))) [
            | true ↦ refl
            | false ↦ ap (λ l. f y ∷ l) (put-map f id x ys)
          ]
    ]

-- what is made of parts is sorted as they are
pub sorted-map : {A B : Type 0} (f : A → B) (id : B → List ℕ) (xs : List A)
    → map f (sorted_by (λ a. id (f a)) xs) ≡ sorted_by id (map f xs)
sorted-map f id [] = refl
sorted-map f id (x ∷ xs) = put-map f id x (sorted_by (λ a. id (f a)) xs)
    ∙ ap (put_by id (f x)) (sorted-map f id xs)

-- borrowed parts, sorted, and what is made of them
pub lent_sorted : {A B C : Type 0} (f : A → B) (g : B → C) (id : B → List ℕ) (xs : List A)
    (ys : List (Bor A)) → map (λ p. p.now) ys ≡ sorted_by (λ a. id (f a)) xs
    → map (λ p. g (f p.now)) ys ≡ map g (sorted_by id (map f xs))
lent_sorted f g id xs ys e =
    sym (map-map (λ a. g (f a)) (λ p. p.now) ys)
    ∙ (ap (map (λ a. g (f a))) e
    ∙ (sym (map-map g f (sorted_by (λ a. id (f a)) xs))
    ∙ ap (map g) (sorted-map f id xs)))
