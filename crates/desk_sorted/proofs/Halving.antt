-- Runs of rows and places of rows, found by binary search.
use Rattle.std.proofs.Common.{◌≡◌, ℕ, zero, suc, ◌+◌, ◌-◌, ◌<◌, ◌≤◌, Bool, true, false, List}
use Rattle.std.proofs.Common.{[], ◌∷◌, ◌++◌, length, map, take, drop, get_or, Some, sym, refl, ap}
use Rattle.std.proofs.Common.{subst, ◌∙◌, arith}
use Rattle.std.specs.Prelude.{if◌then◌else◌, filter, ◌==◌, not, slice_get, nat_lt, insert}
use Rattle.std.specs.List.{list_all, list_any, AllWithin, IsAllAdjacentAnswer}
use Rattle.std.specs.List.Sorted.{IsPartitionPoint, IsPartitionedBy}
use Rattle.std.specs.Ordering.{is_lt, is_le, is_eq, ordering_index, ordering_reverse}
use Rattle.std.specs.Cmp.{IsTotalOrder}
use Rattle.std.specs.declared.cmp.Ordering.{Ordering}
use Rattle.std.specs.declared.cmp.Ordering.TheVariants.{Less, Equal, Greater}
use Rattle.std.proofs.lemmas.Bool.Decides.{nat_tests}
use Rattle.std.proofs.lemmas.List.{take-append-drop}
use Rattle.std.proofs.lemmas.Bool.{and_from}
use Rattle.desk_model.specs.Lists.{put, put_all, updated, ascends}
use Rattle.desk_model.specs.Keys.{below_by}
use Rattle.desk_sorted.specs.Blocks.{last_of}
use Rattle.desk_sorted.specs.Sorted.{Rises, Climbs, IsRun, IsPlace}
use Rattle.desk_base.proofs.Bools.{and_left, or_left, or_right}
use Rattle.desk_model.proofs.Orders.{IsOrder, ascends-put, less_by}
use Rattle.desk_model.proofs.Lists.{put-past, length-updated}

-- sides that do not fall

pub lt_by : (o p : Ordering) → ordering_index o ≤ ordering_index p → is_lt p ≡ true → is_lt o ≡ true
lt_by Less p h e = refl
lt_by Equal Less h e = absurd (omega (arith, h))
lt_by Equal Equal h e = e
lt_by Equal Greater h e = e
lt_by Greater Less h e = absurd (omega (arith, h))
lt_by Greater Equal h e = e
lt_by Greater Greater h e = e

pub le_by : (o p : Ordering) → ordering_index o ≤ ordering_index p → is_le p ≡ true → is_le o ≡ true
le_by Less p h e = refl
le_by Equal p h e = refl
le_by Greater Less h e = absurd (omega (arith, h))
le_by Greater Equal h e = absurd (omega (arith, h))
le_by Greater Greater h e = e

pub partitioned_lt : {A : Type 0} (side : A → Ordering) (xs : List A) → Rises side xs
    → IsPartitionedBy (λ x. is_lt (side x)) xs
partitioned_lt side xs up = λ i j d le lt e. lt_by (side (get_or xs i d)) (side (get_or xs j d))
    (up i j d le lt) e

pub partitioned_le : {A : Type 0} (side : A → Ordering) (xs : List A) → Rises side xs
    → IsPartitionedBy (λ x. is_le (side x)) xs
partitioned_le side xs up = λ i j d le lt e. le_by (side (get_or xs i d)) (side (get_or xs j d))
    (up i j d le lt) e

equal : (o : Ordering) → is_lt o ≡ false → is_le o ≡ true → o ≡ Equal
equal Less e f = cc
equal Equal e f = refl
equal Greater e f = cc

greater : (o : Ordering) → is_le o ≡ false → o ≡ Greater
greater Less e = cc
greater Equal e = cc
greater Greater e = refl

lt_le : (o : Ordering) → is_lt o ≡ true → is_le o ≡ false → ⊥
lt_le Less e f = cc
lt_le Equal e f = cc
lt_le Greater e f = cc

ends_in_order : {A : Type 0} (side : A → Ordering) (xs : List A) (low high : ℕ) (b : Bool)
    → nat_lt high low ≡ b → low ≤ length xs → high ≤ length xs
    → IsPartitionPoint (λ x. is_lt (side x) ≡ true) (λ x. is_lt (side x) ≡ false) xs low
    → IsPartitionPoint (λ x. is_le (side x) ≡ true) (λ x. is_le (side x) ≡ false) xs high
    → low ≤ high
ends_in_order side xs low high false e m n p q = grind (arith, nat_tests)
ends_in_order side [] low high true e m n p q = omega (arith, m)
ends_in_order side (x ∷ xs) low high true e m n p q =
    let lt : high < low = grind (arith, nat_tests) in
    absurd (lt_le (side (get_or (x ∷ xs) high x)) (p.0 high x (omega arith) lt)
    (q.1 high x (omega arith) (omega (arith, m))))

pub is_run : {A : Type 0} (side : A → Ordering) (xs : List A) (low high : ℕ) → low ≤ length xs
    → high ≤ length xs → IsPartitionPoint (λ x. is_lt (side x) ≡ true) (λ x. is_lt (side x) ≡ false)
    xs low → IsPartitionPoint (λ x. is_le (side x) ≡ true) (λ x. is_le (side x) ≡ false) xs high
    → IsRun side xs low high
is_run side xs low high m n p q = record {
  ordered = ends_in_order side xs low high (nat_lt high low) refl m n p q;
  within = n;
  before = λ k d a b. less_by (side (get_or xs k d)) (p.0 k d a b);
  sought = λ k d a b. equal (side (get_or xs k d)) (p.1 k d a (omega arith))
      (q.0 k d (omega arith) b);
  behind = λ k d a b. greater (side (get_or xs k d)) (q.1 k d a b);
}

-- what is in a run

filter_none : {A : Type 0} (test : A → Bool) (xs : List A)
    → AllWithin (λ x. test x ≡ false) xs 0 (length xs) → filter test xs ≡ []
filter_none test [] h = refl
filter_none test (x ∷ xs) h =
    let here : test x ≡ false = h zero x (omega arith) (omega arith) in
    rw here (filter_none test xs (λ k d a b. h (suc k) d (omega arith) (omega (arith, b))))

filter_head : {A : Type 0} (test : A → Bool) (xs : List A) (high : ℕ)
    → AllWithin (λ x. test x ≡ true) xs 0 high → AllWithin (λ x. test x ≡ false) xs high (length xs)
    → high ≤ length xs → filter test xs ≡ take high xs
filter_head test xs zero t f within = filter_none test xs f
filter_head test [] (suc high) t f within = refl
filter_head test (x ∷ xs) (suc high) t f within =
    let here : test x ≡ true = t zero x (omega arith) (omega arith) in
    rw here (ap (λ l. x ∷ l) (filter_head test xs high
    (λ k d a b. t (suc k) d (omega arith) (omega (arith, b)))
    (λ k d a b. f (suc k) d (omega (arith, a)) (omega (arith, b))) (omega (arith, within))))

filter_run : {A : Type 0} (test : A → Bool) (xs : List A) (low high : ℕ) → low ≤ high
    → high ≤ length xs → AllWithin (λ x. test x ≡ false) xs 0 low
    → AllWithin (λ x. test x ≡ true) xs low high
    → AllWithin (λ x. test x ≡ false) xs high (length xs)
    → filter test xs ≡ take (high - low) (drop low xs)
filter_run test xs zero high le within f t g =
    let same : high ≡ high - 0 = omega arith in
    filter_head test xs high t g within ∙ ap (λ n. take n xs) same
filter_run test [] (suc low) high le within f t g = absurd (omega (arith, le, within))
filter_run test (x ∷ xs) (suc low) zero le within f t g = absurd (omega (arith, le))
filter_run test (x ∷ xs) (suc low) (suc high) le within f t g =
    let here : test x ≡ false = f zero x (omega arith) (omega arith) in
    let same : high - low ≡ suc high - suc low = omega arith in
    rw here (filter_run test xs low high (omega (arith, le)) (omega (arith, within))
    (λ k d a b. f (suc k) d (omega arith) (omega (arith, b)))
    (λ k d a b. t (suc k) d (omega (arith, a)) (omega (arith, b)))
    (λ k d a b. g (suc k) d (omega (arith, a)) (omega (arith, b)))
    ∙ ap (λ n. take n (drop low xs)) same)

-- what a test that depends on the side says along a run
pub record Tells {A : Type 0} (test : A → Bool) (xs : List A) (low high : ℕ) : Type 0 where
  pub before : AllWithin (λ x. test x ≡ false) xs 0 low
  pub sought : AllWithin (λ x. test x ≡ true) xs low high
  pub behind : AllWithin (λ x. test x ≡ false) xs high (length xs)

pub tells : {A : Type 0} (test : A → Bool) (side : A → Ordering)
    → ((x : A) → test x ≡ is_eq (side x)) → (xs : List A) (low high : ℕ) → IsRun side xs low high
    → Tells test xs low high
tells test side meets xs low high run = record {
  before = λ k d a b. meets (get_or xs k d) ∙ ap is_eq (run.before k d a b);
  sought = λ k d a b. meets (get_or xs k d) ∙ ap is_eq (run.sought k d a b);
  behind = λ k d a b. meets (get_or xs k d) ∙ ap is_eq (run.behind k d a b);
}

pub run_found : {A : Type 0} (test : A → Bool) (side : A → Ordering)
    → ((x : A) → test x ≡ is_eq (side x)) → (xs : List A) (low high : ℕ) → IsRun side xs low high
    → take (high - low) (drop low xs) ≡ filter test xs
run_found test side meets xs low high run =
    let t = tells test side meets xs low high run in
    sym (filter_run test xs low high run.ordered run.within t.before t.sought t.behind)

filter_all : {A : Type 0} (test : A → Bool) (xs : List A)
    → AllWithin (λ x. test x ≡ false) xs 0 (length xs) → filter (λ x. not (test x)) xs ≡ xs
filter_all test [] h = refl
filter_all test (x ∷ xs) h =
    let here : test x ≡ false = h zero x (omega arith) (omega arith) in
    rw here (ap (λ l. x ∷ l) (filter_all test xs
    (λ k d a b. h (suc k) d (omega arith) (omega (arith, b)))))

filter_others : {A : Type 0} (test : A → Bool) (xs : List A) (low high : ℕ) → low ≤ high
    → high ≤ length xs → Tells test xs low high
    → filter (λ x. not (test x)) xs ≡ take low xs ++ drop high xs
filter_others test xs zero zero le within t = filter_all test xs t.behind
filter_others test [] zero (suc high) le within t = absurd (omega (arith, within))
filter_others test (x ∷ xs) zero (suc high) le within t =
    let here : test x ≡ true = t.sought zero x (omega arith) (omega arith) in
    rw here (filter_others test xs zero high (omega arith) (omega (arith, within)) (record {
      before = λ k d a b. absurd (omega (arith, a, b));
      sought = λ k d a b. t.sought (suc k) d (omega arith) (omega (arith, b));
      behind = λ k d a b. t.behind (suc k) d (omega (arith, a)) (omega (arith, b));
    }))
filter_others test xs (suc low) zero le within t = absurd (omega (arith, le))
filter_others test [] (suc low) (suc high) le within t = refl
filter_others test (x ∷ xs) (suc low) (suc high) le within t =
    let here : test x ≡ false = t.before zero x (omega arith) (omega arith) in
    rw here (ap (λ l. x ∷ l) (filter_others test xs low high (omega (arith, le))
    (omega (arith, within)) (record {
      before = λ k d a b. t.before (suc k) d (omega arith) (omega (arith, b));
      sought = λ k d a b. t.sought (suc k) d (omega (arith, a)) (omega (arith, b));
      behind = λ k d a b. t.behind (suc k) d (omega (arith, a)) (omega (arith, b));
    })))

pub run_cut : {A : Type 0} (test : A → Bool) (side : A → Ordering)
    → ((x : A) → test x ≡ is_eq (side x)) → (xs : List A) (low high : ℕ) → IsRun side xs low high
    → take low xs ++ drop high xs ≡ filter (λ x. not (test x)) xs
run_cut test side meets xs low high run = sym (filter_others test xs low high run.ordered run.within
    (tells test side meets xs low high run))

updated_none : {A : Type 0} (test : A → Bool) (change : A → A) (xs : List A)
    → AllWithin (λ x. test x ≡ false) xs 0 (length xs) → updated test change xs ≡ xs
updated_none test change [] h = refl
updated_none test change (x ∷ xs) h =
    let here : test x ≡ false = h zero x (omega arith) (omega arith) in
    rw here (ap (λ l. x ∷ l) (updated_none test change xs
    (λ k d a b. h (suc k) d (omega arith) (omega (arith, b)))))

-- only the rows of the run are changed
pub updated_run : {A : Type 0} (test : A → Bool) (change : A → A) (xs : List A) (low high : ℕ)
    → low ≤ high → high ≤ length xs → Tells test xs low high
    → updated test change xs ≡ take low xs
    ++ (map change (take (high - low) (drop low xs)) ++ drop (high - low) (drop low xs))
updated_run test change xs zero zero le within t = updated_none test change xs t.behind
updated_run test change [] zero (suc high) le within t = absurd (omega (arith, within))
updated_run test change (x ∷ xs) zero (suc high) le within t =
    let here : test x ≡ true = t.sought zero x (omega arith) (omega arith) in
    let next : suc high - 0 ≡ suc (high - 0) = omega arith in
    rw (
      here,
      next,
    ) (ap (λ l. change x ∷ l) (updated_run test change xs zero high (omega arith)
    (omega (arith, within)) (record {
      before = λ k d a b. absurd (omega (arith, a, b));
      sought = λ k d a b. t.sought (suc k) d (omega arith) (omega (arith, b));
      behind = λ k d a b. t.behind (suc k) d (omega (arith, a)) (omega (arith, b));
    })))
updated_run test change xs (suc low) zero le within t = absurd (omega (arith, le))
updated_run test change [] (suc low) (suc high) le within t = absurd (omega (arith, within))
updated_run test change (x ∷ xs) (suc low) (suc high) le within t =
    let here : test x ≡ false = t.before zero x (omega arith) (omega arith) in
    let same : suc high - suc low ≡ high - low = omega arith in
    rw (
      here,
      same,
    ) (ap (λ l. x ∷ l) (updated_run test change xs low high (omega (arith, le))
    (omega (arith, within)) (record {
      before = λ k d a b. t.before (suc k) d (omega arith) (omega (arith, b));
      sought = λ k d a b. t.sought (suc k) d (omega (arith, a)) (omega (arith, b));
      behind = λ k d a b. t.behind (suc k) d (omega (arith, a)) (omega (arith, b));
    })))

-- the first of the rows that pass

pub some_left : (n : ℕ) → not (suc n == 0) ≡ true
some_left n = let none : (suc n == 0) ≡ false = grind (arith, nat_tests) in ap not none

-- places

any_take : {A : Type 0} (test : A → Bool) (xs : List A) (n : ℕ)
    → AllWithin (λ x. test x ≡ false) xs 0 n → n ≤ length xs → list_any test (take n xs) ≡ false
any_take test xs zero h within = refl
any_take test [] (suc n) h within = refl
any_take test (x ∷ xs) (suc n) h within =
    let here : test x ≡ false = h zero x (omega arith) (omega arith) in
    rw here (any_take test xs n (λ k d a b. h (suc k) d (omega arith) (omega (arith, b)))
    (omega (arith, within)))

all_drop : {A : Type 0} (test : A → Bool) (xs : List A) (n : ℕ)
    → AllWithin (λ x. test x ≡ true) xs n (length xs) → list_all test (drop n xs) ≡ true
all_drop test [] zero h = refl
all_drop test (x ∷ xs) zero h =
    and_from (test x) (list_all test xs) (h zero x (omega arith) (omega arith))
    (all_drop test xs zero (λ k d a b. h (suc k) d (omega arith) (omega (arith, b))))
all_drop test [] (suc n) h = refl
all_drop test (x ∷ xs) (suc n) h = all_drop test xs n
    (λ k d a b. h (suc k) d (omega (arith, a)) (omega (arith, b)))

pub turned_le : (o p : Ordering) → o ≡ ordering_reverse p → is_le p ≡ true → is_lt o ≡ false
turned_le o Less e f = ap is_lt e
turned_le o Equal e f = ap is_lt e
turned_le o Greater e f = cc

pub turned_gt : (o p : Ordering) → o ≡ ordering_reverse p → is_le p ≡ false → is_lt o ≡ true
turned_gt o Less e f = cc
turned_gt o Equal e f = cc
turned_gt o Greater e f = ap is_lt e

pub is_place : {A : Type 0} {order : A → A → Ordering} → IsTotalOrder order
    → (x : A) (xs : List A) (n : ℕ) → n ≤ length xs
    → IsPartitionPoint (λ y. is_le (order y x) ≡ true) (λ y. is_le (order y x) ≡ false) xs n
    → IsPlace (below_by order) x xs n
is_place {A} {order} t x xs n within p = record {
  within = within;
  front = any_take (below_by order x) xs n
      (λ k d a b. turned_le (order x (get_or xs k d)) (order (get_or xs k d) x)
      (t.antisymm x (get_or xs k d)) (p.0 k d a b)) within;
  back = all_drop (below_by order x) xs n
      (λ k d a b. turned_gt (order x (get_or xs k d)) (order (get_or xs k d) x)
      (t.antisymm x (get_or xs k d)) (p.1 k d a b));
}

pub put_first : {A : Type 0} (below : A → A → Bool) (x : A) (ys : List A)
    → list_all (below x) ys ≡ true → put below x ys ≡ x ∷ ys
put_first below x [] all = refl
put_first below x (y ∷ ys) all = rw (and_left (below x y) (list_all (below x) ys) all) refl

pub put_at : {A : Type 0} (below : A → A → Bool) (x : A) (xs : List A) (n : ℕ)
    → IsPlace below x xs n → put below x xs ≡ insert xs n x
put_at below x xs n p =
    ap (put below x) (sym (take-append-drop n xs))
    ∙ (put-past below x (take n xs) (drop n xs) p.front
    ∙ ap (λ l. take n xs ++ l) (put_first below x (drop n xs) p.back))

-- rows that climb and all go to one place

pub last_at : {A : Type 0} (m : A) (ms : List A)
    → slice_get (m ∷ ms) (length ms) ≡ Some (last_of m ms)
last_at m [] = refl
last_at m (x ∷ xs) = last_at x xs

none_above : {A : Type 0} (below : A → A → Bool) → IsOrder below → (m x : A) (ys : List A)
    → below m x ≡ true → list_any (below m) ys ≡ false → list_any (below x) ys ≡ false
none_above below o m x [] e none = refl
none_above below o m x (y ∷ ys) e none =
    rw (not_above (below x y) refl)
    (none_above below o m x ys e (or_right (below m y) (list_any (below m) ys) none))
  where
    not_above : (b : Bool) → below x y ≡ b → b ≡ false
    not_above true f = sym (o.between m x y e (o.asym x y f))
        ∙ or_left (below m y) (list_any (below m) ys) none
    not_above false f = refl

put_block : {A : Type 0} (below : A → A → Bool) → IsOrder below
    → (front back : List A) (m : A) (ms : List A) → Climbs below (m ∷ ms)
    → list_any (below m) front ≡ false → list_all (below (last_of m ms)) back ≡ true
    → put_all below (m ∷ ms) (front ++ back) ≡ front ++ (m ∷ (ms ++ back))
put_block below o front back m [] up none all = put-past below m front back none
    ∙ ap (λ l. front ++ l) (put_first below m back all)
put_block below o front back m (x ∷ xs) up none all =
    let here : below m x ≡ true = up zero m (omega arith) in
    let tail : Climbs below (x ∷ xs) = λ k d lt. let next : suc k + 1 ≡ suc (k + 1) = omega arith in
    subst (λ n. below (get_or (x ∷ xs) k d) (get_or (m ∷ x ∷ xs) n d) ≡ true) next
    (up (suc k) d (omega (arith, lt))) in
    let rest = put_block below o front back x xs tail (none_above below o m x front here none)
    all in
    ap (put below m) rest
    ∙ (put-past below m front (x ∷ (xs ++ back)) none ∙ ap (λ l. front ++ l) (rw here refl))

pub block_at : {A : Type 0} (below : A → A → Bool) → IsOrder below
    → (m : A) (ms xs : List A) (n : ℕ) → Climbs below (m ∷ ms) → IsPlace below m xs n
    → IsPlace below (last_of m ms) xs n
    → put_all below (m ∷ ms) xs ≡ take n xs ++ (m ∷ ms ++ drop n xs)
block_at below o m ms xs n up p q =
    ap (put_all below (m ∷ ms)) (sym (take-append-drop n xs))
    ∙ put_block below o (take n xs) (drop n xs) m ms up p.front q.back

pub block_of : {A : Type 0} (below : A → A → Bool) → IsOrder below
    → (first last : A) (more xs : List A) (n : ℕ) → Some first ≡ slice_get more 0
    → Some last ≡ slice_get more (length more - 1) → Climbs below more → IsPlace below first xs n
    → IsPlace below last xs n → put_all below more xs ≡ take n xs ++ (more ++ drop n xs)
block_of below o first last [] xs n f l up p q = cc
block_of below o first last (m ∷ ms) xs n f l up p q =
    let front : first ≡ m = cc in
    let count : length (m ∷ ms) - 1 ≡ length ms = omega arith in
    let found : Some last ≡ Some (last_of m ms) = l
    ∙ (ap (slice_get (m ∷ ms)) count ∙ last_at m ms) in
    let back : last ≡ last_of m ms = cc in
    block_at below o m ms xs n up (subst (λ x. IsPlace below x xs n) front p)
    (subst (λ x. IsPlace below x xs n) back q)

pub climbs_by : {A : Type 0} (below : A → A → Bool) (xs : List A) (r : Bool)
    → IsAllAdjacentAnswer (λ x y b. b ≡ below x y) xs r → r ≡ true → Climbs below xs
climbs_by below xs true h e = λ k d lt. sym (h k d lt)
climbs_by below xs false h e = cc

-- one more row, or none if there was no room
pub ascends_either : {A : Type 0} (below : A → A → Bool) → IsOrder below
    → (b : Bool) (x : A) (xs : List A) (n : ℕ) → IsPlace below x xs n → ascends below xs ≡ true
    → ascends below (if b then insert xs n x else xs) ≡ true
ascends_either below o true x xs n p up = ap (ascends below) (sym (put_at below x xs n p))
    ∙ ascends-put below o x xs up
ascends_either below o false x xs n p up = up

pub same_count : {A : Type 0} (test : A → Bool) (change : A → A) (xs ys : List A)
    → ys ≡ updated test change xs → length ys ≡ length xs
same_count test change xs ys e = ap length e ∙ length-updated test change xs

-- a run is changed in its place
pub run_changed : {A : Type 0} (test : A → Bool) (side : A → Ordering)
    → ((x : A) → test x ≡ is_eq (side x))
    → (change : A → A) (xs seen lent part : List A) (low high : ℕ) → IsRun side seen low high
    → seen ≡ xs → lent ≡ xs → part ≡ map change (take (high - low) (drop low lent))
    → take low lent ++ (part ++ drop (high - low) (drop low lent)) ≡ updated test change xs
run_changed test side meets change xs seen lent part low high run e f g =
    let here = subst (λ ys. IsRun side ys low high) e run in
    ap (λ ys. take low lent ++ (ys ++ drop (high - low) (drop low lent))) g
    ∙ (ap (λ ys. take low ys ++ (map change (take (high - low) (drop low ys))
    ++ drop (high - low) (drop low ys))) f
    ∙ sym (updated_run test change xs low high here.ordered here.within
    (tells test side meets xs low high here)))
