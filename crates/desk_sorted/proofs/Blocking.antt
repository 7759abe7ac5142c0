-- Rows in blocks.
use Rattle.std.proofs.Common.{◌≡◌, ℕ, zero, suc, ◌-◌, ◌<◌, ◌≤◌, Bool, true, false, List, [], ◌∷◌}
use Rattle.std.proofs.Common.{◌++◌, length, take, drop, get_or, Some, sym, refl, ap, ◌∙◌, arith}
use Rattle.std.proofs.Common.{Bor}
use denote.Param.Members.{Mut}
use Rattle.std.specs.Fn.{Called, ComputesKey}
use Rattle.std.specs.Prelude.{◌||◌, not, slice_get, Vec}
use Rattle.std.specs.List.{list_all, list_any, AllWithin}
use Rattle.std.specs.List.Sorted.{IsPartitionPoint, IsPartitionedBy}
use Rattle.std.specs.declared.alloc.Global.{Global}
use Rattle.std.proofs.lemmas.List.{take-append-drop}
use Rattle.std.proofs.lemmas.List.Folds.{list_any-append, list_all-append}
use Rattle.std.proofs.lemmas.List.Sorted.{IsPartitionPoint-from_clause}
use Rattle.std.proofs.lemmas.Grind.{flat_map-append}
use Rattle.std.proofs.lemmas.Bool.{and_from, not-true}
use Rattle.desk_model.specs.Lists.{over, ascends}
use Rattle.desk_sorted.specs.Blocks.{are_filled, ends_in, has_rows, last_of, rows_in, IsSplit}
use Rattle.desk_sorted.proofs.Halving.{last_at}
use Rattle.desk_base.proofs.Bools.{and_left, and_right, contrary}

-- the last row of a block

pub ends_at : {A : Type 0} (test : A → Bool) (xs : List A) (x : A)
    → Some x ≡ slice_get xs (length xs - 1) → test x ≡ ends_in test xs
ends_at test [] x e = cc
ends_at test (y ∷ ys) x e =
    let count : length (y ∷ ys) - 1 ≡ length ys = omega arith in
    let found : Some x ≡ Some (last_of y ys) = e ∙ (ap (slice_get (y ∷ ys)) count ∙ last_at y ys) in
    let same : x ≡ last_of y ys = cc in
    ap test same

pub ends_nowhere : {A : Type 0} (test : A → Bool) (xs : List A) → length xs ≡ 0
    → true ≡ ends_in test xs
ends_nowhere test [] e = refl
ends_nowhere test (y ∷ ys) e = absurd (omega (arith, e))

-- parts of rows that ascend

over_front : {A : Type 0} (below : A → A → Bool) (x : A) (xs ys : List A)
    → over below x (xs ++ ys) ≡ true → over below x xs ≡ true
over_front below x [] ys e = refl
over_front below x (z ∷ zs) ys e =
    and_from (not (below z x)) (over below x zs)
    (and_left (not (below z x)) (over below x (zs ++ ys)) e)
    (over_front below x zs ys (and_right (not (below z x)) (over below x (zs ++ ys)) e))

pub ascends_front : {A : Type 0} (below : A → A → Bool) (xs ys : List A)
    → ascends below (xs ++ ys) ≡ true → ascends below xs ≡ true
ascends_front below [] ys up = refl
ascends_front below (x ∷ xs) ys up =
    and_from (over below x xs) (ascends below xs)
    (over_front below x xs ys (and_left (over below x (xs ++ ys)) (ascends below (xs ++ ys)) up))
    (ascends_front below xs ys (and_right (over below x (xs ++ ys)) (ascends below (xs ++ ys)) up))

pub ascends_back : {A : Type 0} (below : A → A → Bool) (xs ys : List A)
    → ascends below (xs ++ ys) ≡ true → ascends below ys ≡ true
ascends_back below [] ys up = up
ascends_back below (x ∷ xs) ys up = ascends_back below xs ys
    (and_right (over below x (xs ++ ys)) (ascends below (xs ++ ys)) up)

pub rows_split : {R : Type 0} (n : ℕ) (bs : List (Vec R Global))
    → rows_in (take n bs) ++ rows_in (drop n bs) ≡ rows_in bs
rows_split n bs = sym (flat_map-append (λ b. b.items) (take n bs) (drop n bs))
    ∙ ap rows_in (take-append-drop n bs)

pub ascends_take : {R : Type 0} (below : R → R → Bool) (n : ℕ) (bs : List (Vec R Global))
    → ascends below (rows_in bs) ≡ true → ascends below (rows_in (take n bs)) ≡ true
ascends_take below n bs up = ascends_front below (rows_in (take n bs)) (rows_in (drop n bs))
    (ap (ascends below) (rows_split n bs) ∙ up)

pub ascends_drop : {R : Type 0} (below : R → R → Bool) (n : ℕ) (bs : List (Vec R Global))
    → ascends below (rows_in bs) ≡ true → ascends below (rows_in (drop n bs)) ≡ true
ascends_drop below n bs up = ascends_back below (rows_in (take n bs)) (rows_in (drop n bs))
    (ap (ascends below) (rows_split n bs) ∙ up)

-- parts of blocks that have rows

pub all_drop : {A : Type 0} (test : A → Bool) (n : ℕ) (xs : List A) → list_all test xs ≡ true
    → list_all test (drop n xs) ≡ true
all_drop test zero xs e = e
all_drop test (suc n) [] e = refl
all_drop test (suc n) (x ∷ xs) e = all_drop test n xs (and_right (test x) (list_all test xs) e)

pub all_take : {A : Type 0} (test : A → Bool) (n : ℕ) (xs : List A) → list_all test xs ≡ true
    → list_all test (take n xs) ≡ true
all_take test zero xs e = refl
all_take test (suc n) [] e = refl
all_take test (suc n) (x ∷ xs) e =
    and_from (test x) (list_all test (take n xs)) (and_left (test x) (list_all test xs) e)
    (all_take test n xs (and_right (test x) (list_all test xs) e))

pub filled_drop : {R : Type 0} (n : ℕ) (bs : List (Vec R Global)) → are_filled bs ≡ true
    → are_filled (drop n bs) ≡ true
filled_drop zero bs e = e
filled_drop (suc n) [] e = refl
filled_drop (suc n) (b ∷ bs) e = all_drop (λ b. has_rows b.items) 1 (drop n bs)
    (all_drop (λ b. has_rows b.items) n bs e)

pub filled_take : {R : Type 0} (n : ℕ) (bs : List (Vec R Global)) → are_filled bs ≡ true
    → are_filled (take n bs) ≡ true
filled_take zero bs e = refl
filled_take (suc n) [] e = refl
filled_take (suc n) (b ∷ bs) e = all_take (λ b. has_rows b.items) n bs e

-- a test that fails from some row on

abbrev pub Turns : {A : Type 0} → (A → A → Bool) → (A → Bool) → Type 0
Turns {A} below test = (x y : A) → below y x ≡ false → test y ≡ true → test x ≡ true

all_of : {A : Type 0} (below : A → A → Bool) (test : A → Bool) → Turns below test → (xs : List A)
    → ascends below xs ≡ true → ends_in test xs ≡ true → list_all test xs ≡ true
all_of below test t [] up e = refl
all_of below test t (x ∷ []) up e = and_from (test x) true e refl
all_of below test t (x ∷ y ∷ ys) up e =
    let rest = all_of below test t (y ∷ ys)
    (and_right (over below x (y ∷ ys)) (ascends below (y ∷ ys)) up) e in
    let first = and_left (over below x (y ∷ ys)) (ascends below (y ∷ ys)) up in
    and_from (test x) (list_all test (y ∷ ys))
    (t x y (not-true (below y x) (and_left (not (below y x)) (over below x ys) first))
    (and_left (test y) (list_all test ys) rest))
    rest

none_over : {A : Type 0} (below : A → A → Bool) (test : A → Bool) → Turns below test
    → (x : A) (ys : List A) → over below x ys ≡ true → test x ≡ false → list_any test ys ≡ false
none_over below test t x [] e out = refl
none_over below test t x (y ∷ ys) e out =
    rw (fails (test y) refl) (none_over below test t x ys
    (and_right (not (below y x)) (over below x ys) e) out)
  where
    fails : (b : Bool) → test y ≡ b → b ≡ false
    fails true f = sym (t x y (not-true (below y x)
        (and_left (not (below y x)) (over below x ys) e)) f) ∙ out
    fails false f = refl

pub none_after : {A : Type 0} (below : A → A → Bool) (test : A → Bool) → Turns below test
    → (xs ys : List A) → ascends below (xs ++ ys) ≡ true → ends_in test xs ≡ false
    → list_any test ys ≡ false
none_after below test t [] ys up e = cc
none_after below test t (x ∷ []) ys up e = none_over below test t x ys
    (and_left (over below x ys) (ascends below ys) up) e
none_after below test t (x ∷ y ∷ zs) ys up e =
    none_after below test t (y ∷ zs) ys
    (and_right (over below x (y ∷ (zs ++ ys))) (ascends below (y ∷ (zs ++ ys))) up) e

any_front : {A : Type 0} (test : A → Bool) (xs ys : List A) → list_any test xs ≡ true
    → list_any test (xs ++ ys) ≡ true
any_front test xs ys e = list_any-append test xs ys ∙ rw e refl

any_back : {A : Type 0} (test : A → Bool) (xs ys : List A) → list_any test ys ≡ true
    → list_any test (xs ++ ys) ≡ true
any_back test [] ys e = e
any_back test (x ∷ xs) ys e = elim (test x) as (λ b. (b || list_any test (xs ++ ys)) ≡ true)
    [ true ↦ refl | false ↦ any_back test xs ys e ]

ends_any : {A : Type 0} (test : A → Bool) (xs : List A) → has_rows xs ≡ true
    → ends_in test xs ≡ true → list_any test xs ≡ true
ends_any test [] some e = cc
ends_any test (x ∷ []) some e = rw e refl
ends_any test (x ∷ y ∷ ys) some e = any_back test (x ∷ []) (y ∷ ys) (ends_any test (y ∷ ys) refl e)

module _ {R : Type 0} (below : R → R → Bool) (test : R → Bool) (t : Turns below test) where
  any_block : (bs : List (Vec R Global)) (j : ℕ) (d : Vec R Global) → j < length bs
      → list_all (λ b. has_rows b.items) bs ≡ true → ends_in test (get_or bs j d).items ≡ true
      → list_any test (rows_in bs) ≡ true
  any_block [] j d lt some e = absurd (omega (arith, lt))
  any_block (b ∷ bs) zero d lt some e =
      any_front test b.items (rows_in bs)
      (ends_any test b.items (and_left (has_rows b.items) (list_all (λ b. has_rows b.items) bs)
      some) e)
  any_block (b ∷ bs) (suc j) d lt some e =
      any_back test b.items (rows_in bs)
      (any_block bs j d (omega (arith, lt))
      (and_right (has_rows b.items) (list_all (λ b. has_rows b.items) bs) some) e)

  first_passes : (b : Vec R Global) (bs : List (Vec R Global)) (v : Bool) → ends_in test b.items ≡ v
      → ascends below (b.items ++ rows_in bs) ≡ true → list_any test (rows_in bs) ≡ true → v ≡ true
  first_passes b bs true f up some = refl
  first_passes b bs false f up some = absurd (contrary (list_any test (rows_in bs)) some
      (none_after below test t b.items (rows_in bs) up f))

  blocks_turn : (bs : List (Vec R Global)) → ascends below (rows_in bs) ≡ true
      → are_filled bs ≡ true → IsPartitionedBy (λ b. ends_in test b.items) bs
  blocks_turn [] up some i j d le lt e = absurd (omega (arith, lt))
  blocks_turn (b ∷ bs) up some zero zero d le lt e = e
  blocks_turn (b ∷ bs) up some zero (suc j) d le lt e =
      first_passes b bs (ends_in test b.items) refl up (any_block bs j d (omega (arith, lt)) some e)
  blocks_turn (b ∷ bs) up some (suc i) zero d le lt e = absurd (omega (arith, le))
  blocks_turn (b ∷ bs) up some (suc i) (suc j) d le lt e =
      blocks_turn bs (ascends_back below b.items (rows_in bs) up)
      (all_drop (λ b. has_rows b.items) 1 bs some) i j d (omega (arith, le)) (omega (arith, lt)) e

  front_all : (bs : List (Vec R Global)) (n : ℕ) → ascends below (rows_in bs) ≡ true
      → AllWithin (λ b. ends_in test b.items ≡ true) bs 0 n
      → list_all test (rows_in (take n bs)) ≡ true
  front_all bs zero up h = refl
  front_all [] (suc n) up h = refl
  front_all (b ∷ bs) (suc n) up h =
      list_all-append test b.items (rows_in (take n bs))
      ∙ and_from (list_all test b.items) (list_all test (rows_in (take n bs)))
      (all_of below test t b.items (ascends_front below b.items (rows_in bs) up)
      (h zero b (omega arith) (omega arith)))
      (front_all bs n (ascends_back below b.items (rows_in bs) up)
      (λ k d a lt. h (suc k) d (omega arith) (omega (arith, lt))))

  back_none : (bs : List (Vec R Global)) (n : ℕ) → ascends below (rows_in bs) ≡ true
      → AllWithin (λ b. ends_in test b.items ≡ false) bs n (length bs)
      → list_any test (rows_in (drop (suc n) bs)) ≡ false
  back_none [] n up h = refl
  back_none (b ∷ bs) zero up h = none_after below test t b.items (rows_in bs) up
      (h zero b (omega arith) (omega arith))
  back_none (b ∷ bs) (suc n) up h =
      back_none bs n (ascends_back below b.items (rows_in bs) up)
      (λ k d a lt. h (suc k) d (omega (arith, a)) (omega (arith, lt)))

  is_split : (bs : List (Vec R Global)) (n : ℕ) → n ≤ length bs
      → ascends below (rows_in bs) ≡ true
      → IsPartitionPoint (λ b. ends_in test b.items ≡ true) (λ b. ends_in test b.items ≡ false) bs n
      → IsSplit test bs n
  is_split bs n within up p = record {
    within = within;
    front = front_all bs n up p.0;
    back = back_none bs n up p.1;
  }

  -- the place that partition_point finds
  pub is_parted : {F : Type 0} {g : Mut F (Bor (Vec R Global) × Unit {0}) Bool} {f : F}
      (bs : List (Vec R Global)) (n : ℕ) → n ≤ length bs → ascends below (rows_in bs) ≡ true
      → are_filled bs ≡ true
      → ((q : Vec R Global → Bool) → ComputesKey g q f → IsPartitionedBy q bs
      → IsPartitionPoint (λ b. q b ≡ true) (λ b. q b ≡ false) bs n)
      → ((a : Bor (Vec R Global) × Unit {0}) (r : Bool) (f' : F) → Called g f a r f'
      → (r ≡ ends_in test a.0.now.items) × (f' ≡ f)) → IsSplit test bs n
  is_parted bs n within up some clause same = is_split bs n within up
      (IsPartitionPoint-from_clause (λ b. ends_in test b.items) bs n clause
      (blocks_turn bs up some) same)
