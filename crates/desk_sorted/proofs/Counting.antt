-- Rows that are counted.
use Rattle.std.proofs.Common.{◌≡◌, ℕ, ◌+◌, ◌-◌, ◌^◌, ◌<◌, ◌≤◌, Bool, List, []}
use Rattle.std.proofs.Common.{◌∷◌, length, drop, get_or, refl, ap, ◌∙◌, arith}
use Rattle.std.specs.Prelude.{filter, not, Vec}
use Rattle.std.specs.declared.alloc.Global.{Global}
use Rattle.std.proofs.lemmas.List.{length-append}
use Rattle.std.proofs.lemmas.List.Filters.{length-filter_both}
use Rattle.desk_model.specs.Lists.{put, put_all}
use Rattle.desk_model.proofs.Lists.{length-put}
use Rattle.desk_sorted.specs.Blocks.{rows_in}
use Rattle.desk_sorted.proofs.Walking.{filter_split}

-- the rows that are sought from one block on

pub found_split : {R : Type 0} (test : R → Bool) (bs : List (Vec R Global)) (i : ℕ)
    (d : Vec R Global) → i < length bs
    → length (filter test (rows_in (drop i bs)))
    ≡ length (filter test (get_or bs i d).items) + length (filter test (rows_in (drop (i + 1) bs)))
found_split test bs i d lt =
    ap length (filter_split test bs i d lt)
    ∙ length-append (filter test (get_or bs i d).items) (filter test (rows_in (drop (i + 1) bs)))

pub none_counted : (n all : ℕ) → n ≡ all → 0 + n ≡ all
none_counted n all e = omega (arith, e)

pub more_found : {R : Type 0} (test : R → Bool) (bs : List (Vec R Global)) (i : ℕ)
    (d : Vec R Global) (here : List R) (n all : ℕ) → i < length bs
    → here ≡ filter test (get_or bs i d).items
    → n + length (filter test (rows_in (drop i bs))) ≡ all
    → (n + length here) + length (filter test (rows_in (drop (i + 1) bs))) ≡ all
more_found test bs i d here n all lt e f = omega (arith, found_split test bs i d lt, ap length e, f)

-- rows that are left, and rows that are put in

pub no_more : {A : Type 0} (test : A → Bool) (xs : List A) → length (filter test xs) ≤ length xs
no_more test xs = omega (arith, length-filter_both test (λ x. not (test x)) (λ x. refl) xs)

pub count_left : {A : Type 0} (test : A → Bool) (xs ys : List A) (all gone : ℕ)
    → ys ≡ filter (λ x. not (test x)) xs → all ≡ length xs → gone ≡ length (filter test xs)
    → all - gone ≡ length ys
count_left test xs ys all gone e f g = omega
    (arith, ap length e, f, g, length-filter_both test (λ x. not (test x)) (λ x. refl) xs)

pub length-put_all : {A : Type 0} (below : A → A → Bool) (xs ys : List A)
    → length (put_all below xs ys) ≡ length ys + length xs
length-put_all below [] ys = omega arith
length-put_all below (x ∷ xs) ys = omega
    (arith, length-put below x (put_all below xs ys), length-put_all below xs ys)

pub cut_fits : {A : Type 0} (test : A → Bool) (xs ys : List A) → ys ≡ filter test xs
    → length xs < 2 ^ 64 → length ys < 2 ^ 64
cut_fits test xs ys e f = omega (arith, ap length e, no_more test xs, f)

pub put_fits : {A : Type 0} (below : A → A → Bool) (test : A → Bool) (more xs ys : List A)
    → ys ≡ put_all below more (filter test xs) → length xs + length more < 2 ^ 64
    → length ys < 2 ^ 64
put_fits below test more xs ys e f = omega
    (arith, ap length e, length-put_all below more (filter test xs), no_more test xs, f)

pub put_counted : {A : Type 0} (below : A → A → Bool) (x : A) (xs ys : List A) (n m : ℕ)
    → ys ≡ put below x xs → n ≡ length xs → m ≡ n + 1 → m ≡ length ys
put_counted below x xs ys n m e f g = omega (arith, ap length e, length-put below x xs, f, g)

pub room_fits : {A : Type 0} (xs ys : List A) (n m : ℕ) → ys ≡ xs → n ≡ length xs
    → m ≤ 18446744073709551615 - n → length xs < 2 ^ 64 → length ys + m < 2 ^ 64
room_fits xs ys n m e f g h = omega (arith, ap length e, f, g, h)

pub counted_fits : {A : Type 0} (xs : List A) (n m : ℕ) → m ≡ length xs → m ≡ n → n < 2 ^ 64
    → length xs < 2 ^ 64
counted_fits xs n m e f g = omega (arith, e, f, g)

pub put_in_counted : {A : Type 0} (below : A → A → Bool) (test : A → Bool) (more xs ys : List A)
    (all gone : ℕ) → ys ≡ put_all below more (filter (λ x. not (test x)) xs) → all ≡ length xs
    → gone ≡ length (filter test xs) → all - gone + length more ≡ length ys
put_in_counted below test more xs ys all gone e f g =
    omega (
      arith,
      ap length e,
      length-put_all below more (filter (λ x. not (test x)) xs),
      count_left test xs (filter (λ x. not (test x)) xs) all gone refl f g,
    )
