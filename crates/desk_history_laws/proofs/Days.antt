-- Written days sort as dates do.
use Rattle.std.proofs.Common.{◌≡◌, ℕ, ◌+◌, ◌*◌, ◌-◌, ◌<◌, Bool, true, false, List, [], ◌∷◌, ◌++◌}
use Rattle.std.proofs.Common.{length, refl, ap, ◌∙◌, sym, arith, inl, inr}
use Rattle.std.specs.Prelude.{IsTrue, ◌&&◌, ◌==◌, nat_lt}
use Rattle.std.specs.Char.{is_ascii_digit}
use Rattle.std.specs.List.{list_all}
use Rattle.std.specs.Ordering.{nat_cmp, ordering_then, is_lt}
use Rattle.std.specs.declared.cmp.Ordering.{Ordering}
use Rattle.std.specs.declared.cmp.Ordering.TheVariants.{Less, Equal, Greater}
use Rattle.std.specs.Cmp.Lexicographic.{slice_cmp}
use Rattle.std.proofs.lemmas.Bool.Decides.{nat_tests}
use Rattle.desk_history.proofs.Rising.{smaller}
use Rattle.desk_base.proofs.Numbers.{three, numbers_equal}
use Rattle.desk_base.proofs.Orders.{same_numbers}
use Rattle.desk_base.proofs.Bools.{and_left, and_right}
use Rattle.desk_base.specs.Day.{is_day, exists, number_from, writes_day}
use Rattle.desk_model.specs.Texts.{is_before}
use Rattle.desk_model.specs.Keys.{below_by}
use Rattle.desk_history_laws.specs.Dates.{date_order, year_of, month_of, day_of}

assoc : (a b c : Ordering) → ordering_then (ordering_then a b) c
    ≡ ordering_then a (ordering_then b c)
assoc Less b c = refl
assoc Equal b c = refl
assoc Greater b c = refl

-- one more digit on each side
then_equal : (a : Ordering) → ordering_then a Equal ≡ a
then_equal Less = refl
then_equal Equal = refl
then_equal Greater = refl

more : (a b : ℕ) → b < a → nat_cmp a b ≡ Greater
more a b gt = let e : nat_lt a b ≡ false = grind (arith, nat_tests) in
    let f : (a == b) ≡ false = grind (arith, nat_tests) in rw (e, f) refl

digit_step : (n m x y : ℕ) → is_ascii_digit x ≡ true → is_ascii_digit y ≡ true
    → ordering_then (nat_cmp n m) (nat_cmp x y) ≡ nat_cmp (n * 10 + (x - 48)) (m * 10 + (y - 48))
digit_step n m x y dx dy =
    elim (three n m) [
      | inl lt ↦ rw (
        smaller n m lt,
        smaller (n * 10 + (x - 48)) (m * 10 + (y - 48)) (grind (arith, nat_tests)),
      ) refl
      | inr ge ↦ elim ge [
        | inl gt ↦ rw (
          more n m gt,
          more (n * 10 + (x - 48)) (m * 10 + (y - 48)) (grind (arith, nat_tests)),
        ) refl
        | inr is ↦ rw (same_numbers n m is) (elim (three x y) [
          | inl lt ↦ rw (
            smaller x y lt,
            smaller (n * 10 + (x - 48)) (m * 10 + (y - 48)) (grind (arith, nat_tests)),
          ) refl
          | inr ge ↦ elim ge [
            | inl gt ↦ rw (
              more x y gt,
              more (n * 10 + (x - 48)) (m * 10 + (y - 48)) (grind (arith, nat_tests)),
            ) refl
            | inr tie ↦ rw (
              same_numbers x y tie,
              same_numbers (n * 10 + (x - 48)) (m * 10 + (y - 48)) (grind (arith, nat_tests)),
            ) refl
          ]
        ])
      ]
    ]

-- digits of the same length, after numbers that precede them
digits : (n m : ℕ) (xs ys : List ℕ) → length xs ≡ length ys → list_all is_ascii_digit xs ≡ true
    → list_all is_ascii_digit ys ≡ true
    → ordering_then (nat_cmp n m) (slice_cmp nat_cmp xs ys)
    ≡ nat_cmp (number_from n xs) (number_from m ys)
digits n m [] [] e dx dy = then_equal (nat_cmp n m)
digits n m [] (y ∷ ys) e dx dy = absurd (omega (arith, e))
digits n m (x ∷ xs) [] e dx dy = absurd (omega (arith, e))
digits n m (x ∷ xs) (y ∷ ys) e dx dy =
    sym (assoc (nat_cmp n m) (nat_cmp x y) (slice_cmp nat_cmp xs ys))
    ∙ (ap (λ o. ordering_then o (slice_cmp nat_cmp xs ys))
    (digit_step n m x y (and_left (is_ascii_digit x) (list_all is_ascii_digit xs) dx)
    (and_left (is_ascii_digit y) (list_all is_ascii_digit ys) dy))
    ∙ digits (n * 10 + (x - 48)) (m * 10 + (y - 48)) xs ys (omega (arith, e))
    (and_right (is_ascii_digit x) (list_all is_ascii_digit xs) dx)
    (and_right (is_ascii_digit y) (list_all is_ascii_digit ys) dy))

-- truth values that all hold
four_hold : (a b c d e : Bool) → (a && (b && (c && (d && e)))) ≡ true
    → ((a && (b && (c && (d && true)))) ≡ true) × (e ≡ true)
four_hold true true true true e is = (refl, is)
four_hold true true true false e is = cc
four_hold true true false d e is = cc
four_hold true false c d e is = cc
four_hold false b c d e is = cc

two_hold : (a b e : Bool) → (a && (b && e)) ≡ true → ((a && (b && true)) ≡ true) × (e ≡ true)
two_hold true true e is = (refl, is)
two_hold true false e is = cc
two_hold false b e is = cc

-- a day's year, month and day, as digits
record IsWritten (day : List ℕ) : Type 0 where
  year : List ℕ
  month : List ℕ
  date : List ℕ
  is : day ≡ year ++ (45 ∷ (month ++ (45 ∷ date)))
  year_long : length year ≡ 4
  month_long : length month ≡ 2
  date_long : length date ≡ 2
  year_digits : list_all is_ascii_digit year ≡ true
  month_digits : list_all is_ascii_digit month ≡ true
  date_digits : list_all is_ascii_digit date ≡ true
  year_at : year_of day ≡ number_from 0 year
  month_at : month_of day ≡ number_from 0 month
  date_at : day_of day ≡ number_from 0 date

ten : (day : List ℕ) → length day ≡ 10 → is_day day ≡ true → IsWritten day
ten (y ∷ e ∷ a ∷ r ∷ f ∷ m ∷ n ∷ s ∷ d ∷ c ∷ []) long is =
    let written : writes_day y e a r f m n s d c ≡ true = is in
    let all : Bool = list_all is_ascii_digit (y ∷ e ∷ a ∷ r ∷ m ∷ n ∷ d ∷ c ∷ []) in
    let real : Bool = exists (number_from 0 (y ∷ e ∷ a ∷ r ∷ [])) (number_from 0 (m ∷ n ∷ []))
    (number_from 0 (d ∷ c ∷ [])) in
    let front : ((all && f == 45) && s == 45) ≡ true =
    and_left ((all && f == 45) && s == 45) real written in
    let head : (all && f == 45) ≡ true = and_left (all && f == 45) (s == 45) front in
    let eight : list_all is_ascii_digit (y ∷ e ∷ a ∷ r ∷ m ∷ n ∷ d ∷ c ∷ []) ≡ true =
    and_left all (f == 45) head in
    let first : f ≡ 45 = numbers_equal f 45 (and_right all (f == 45) head) in
    let second : s ≡ 45 = numbers_equal s 45 (and_right (all && f == 45) (s == 45) front) in
    let years = four_hold (is_ascii_digit y) (is_ascii_digit e) (is_ascii_digit a)
    (is_ascii_digit r) (list_all is_ascii_digit (m ∷ n ∷ d ∷ c ∷ [])) eight in
    let months = two_hold (is_ascii_digit m) (is_ascii_digit n)
    (list_all is_ascii_digit (d ∷ c ∷ [])) years.1 in
    record {
      year = y ∷ e ∷ a ∷ r ∷ [];
      month = m ∷ n ∷ [];
      date = d ∷ c ∷ [];
      is = ap (λ (k : ℕ). y ∷ e ∷ a ∷ r ∷ k ∷ m ∷ n ∷ s ∷ d ∷ c ∷ []) first
          ∙ ap (λ (k : ℕ). y ∷ e ∷ a ∷ r ∷ 45 ∷ m ∷ n ∷ k ∷ d ∷ c ∷ []) second;
      year_long = refl;
      month_long = refl;
      date_long = refl;
      year_digits = years.0;
      month_digits = months.0;
      date_digits = months.1;
      year_at = refl;
      month_at = refl;
      date_at = refl;
    }
ten day long is = absurd (omega (arith, long))

written : (day : List ℕ) → is_day day ≡ true → IsWritten day
written day is = ten day (numbers_equal (length day) 10 (and_left (length day == 10) _ is)) is

-- the same for equal lengths, piece by piece
slice_cmp-append : (xs ys us vs : List ℕ) → length xs ≡ length ys
    → slice_cmp nat_cmp (xs ++ us) (ys ++ vs)
    ≡ ordering_then (slice_cmp nat_cmp xs ys) (slice_cmp nat_cmp us vs)
slice_cmp-append [] [] us vs e = refl
slice_cmp-append [] (y ∷ ys) us vs e = absurd (omega (arith, e))
slice_cmp-append (x ∷ xs) [] us vs e = absurd (omega (arith, e))
slice_cmp-append (x ∷ xs) (y ∷ ys) us vs e =
    ap (ordering_then (nat_cmp x y)) (slice_cmp-append xs ys us vs (omega (arith, e)))
    ∙ sym (assoc (nat_cmp x y) (slice_cmp nat_cmp xs ys) (slice_cmp nat_cmp us vs))

-- digits of the same length compare as their numbers
as_numbers : (xs ys : List ℕ) → length xs ≡ length ys → list_all is_ascii_digit xs ≡ true
    → list_all is_ascii_digit ys ≡ true
    → slice_cmp nat_cmp xs ys ≡ nat_cmp (number_from 0 xs) (number_from 0 ys)
as_numbers xs ys e dx dy = digits 0 0 xs ys e dx dy

-- two days, part by part
parts : (y m d y' m' d' : List ℕ) → length y ≡ length y' → length m ≡ length m'
    → slice_cmp nat_cmp (y ++ (45 ∷ (m ++ (45 ∷ d)))) (y' ++ (45 ∷ (m' ++ (45 ∷ d'))))
    ≡ ordering_then (slice_cmp nat_cmp y y')
    (ordering_then (slice_cmp nat_cmp m m') (slice_cmp nat_cmp d d'))
parts y m d y' m' d' e f =
    slice_cmp-append y y' (45 ∷ (m ++ (45 ∷ d))) (45 ∷ (m' ++ (45 ∷ d'))) e
    ∙ ap (ordering_then (slice_cmp nat_cmp y y')) (slice_cmp-append m m' (45 ∷ d) (45 ∷ d') f)

by_parts : (a b : List ℕ) → IsWritten a → IsWritten b → slice_cmp nat_cmp a b ≡ date_order a b
by_parts a b x y =
    ap (λ (t : List ℕ). slice_cmp nat_cmp t b) x.is
    ∙ (ap (slice_cmp nat_cmp (x.year ++ (45 ∷ (x.month ++ (45 ∷ x.date))))) y.is
    ∙ (parts x.year x.month x.date y.year y.month y.date (x.year_long ∙ sym y.year_long)
    (x.month_long ∙ sym y.month_long)
    ∙ (ap (λ (o : Ordering). ordering_then o
    (ordering_then (slice_cmp nat_cmp x.month y.month) (slice_cmp nat_cmp x.date y.date)))
    (as_numbers x.year y.year (x.year_long ∙ sym y.year_long) x.year_digits y.year_digits)
    ∙ (ap (λ (o : Ordering). ordering_then (nat_cmp (number_from 0 x.year) (number_from 0 y.year))
    (ordering_then o (slice_cmp nat_cmp x.date y.date)))
    (as_numbers x.month y.month (x.month_long ∙ sym y.month_long) x.month_digits y.month_digits)
    ∙ (ap (λ (o : Ordering). ordering_then (nat_cmp (number_from 0 x.year) (number_from 0 y.year))
    (ordering_then (nat_cmp (number_from 0 x.month) (number_from 0 y.month)) o))
    (as_numbers x.date y.date (x.date_long ∙ sym y.date_long) x.date_digits y.date_digits)
    ∙ (ap (λ (k : ℕ). ordering_then (nat_cmp k (number_from 0 y.year))
    (ordering_then (nat_cmp (number_from 0 x.month) (number_from 0 y.month))
    (nat_cmp (number_from 0 x.date) (number_from 0 y.date)))) (sym x.year_at)
    ∙ (ap (λ (k : ℕ). ordering_then (nat_cmp (year_of a) k)
    (ordering_then (nat_cmp (number_from 0 x.month) (number_from 0 y.month))
    (nat_cmp (number_from 0 x.date) (number_from 0 y.date)))) (sym y.year_at)
    ∙ (ap (λ (k : ℕ). ordering_then (nat_cmp (year_of a) (year_of b))
    (ordering_then (nat_cmp k (number_from 0 y.month))
    (nat_cmp (number_from 0 x.date) (number_from 0 y.date)))) (sym x.month_at)
    ∙ (ap (λ (k : ℕ). ordering_then (nat_cmp (year_of a) (year_of b))
    (ordering_then (nat_cmp (month_of a) k)
    (nat_cmp (number_from 0 x.date) (number_from 0 y.date)))) (sym y.month_at)
    ∙ (ap (λ (k : ℕ). ordering_then (nat_cmp (year_of a) (year_of b))
    (ordering_then (nat_cmp (month_of a) (month_of b)) (nat_cmp k (number_from 0 y.date))))
    (sym x.date_at)
    ∙ ap (λ (k : ℕ). ordering_then (nat_cmp (year_of a) (year_of b))
    (ordering_then (nat_cmp (month_of a) (month_of b)) (nat_cmp (day_of a) k)))
    (sym y.date_at)))))))))))

pub days_as_dates : (a b : List ℕ) → IsTrue (is_day a) → IsTrue (is_day b)
    → slice_cmp nat_cmp a b ≡ date_order a b
days_as_dates a b x y = by_parts a b (written a x) (written b y)

pub before_as_dates : (a b : List ℕ) → IsTrue (is_day a) → IsTrue (is_day b)
    → is_before a b ≡ below_by date_order a b
before_as_dates a b x y = ap is_lt (days_as_dates a b x y)
