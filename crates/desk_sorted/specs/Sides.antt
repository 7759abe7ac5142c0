-- The sides of what is sought on which rows are.
use Rattle.std.specs.Prelude.{◌≡◌, ℕ, ◌≤◌, ◌&&◌, ◌==◌, Bool, true, false, List, refl}
use Rattle.std.specs.Ordering.{nat_cmp, is_lt, is_eq, on, ordering_index, ordering_reverse, ordering_then, then_cmp}
use Rattle.std.specs.Cmp.{IsTotalOrder}
use Rattle.std.specs.Cmp.Lexicographic.{slice_cmp}
use Rattle.std.specs.Str.{bytes_eq}
use Rattle.std.specs.declared.cmp.Ordering.{Ordering}
use Rattle.std.specs.declared.cmp.Ordering.TheVariants.{Less, Equal, Greater}
use Rattle.std.proofs.Common.{sym, ap, ◌∙◌, arith}
use Rattle.std.proofs.lemmas.Cmp.{on_total, then_total, nat_list_cmp_total, nat_cmp_total}
use Rattle.std.proofs.lemmas.Map.Text.{is_eq-slice_cmp}
use Rattle.std.proofs.lemmas.Bool.Decides.{nat_tests}
use Rattle.desk_sorted.specs.Sorted.{IsSideOf}

-- A side by the beginning of a key

-- what is Less can't fail the test for it
not_less : (o : Ordering) → o ≡ Less → is_lt o ≡ false → ⊥
not_less o e f = let t : is_lt o ≡ true = ap is_lt e in cc

module _ {K : Type 0} (R : K → K → Ordering) (t : IsTotalOrder R) where
  -- if key b isn't before key a, the side of a isn't behind that of b, by cases of both sides
  sides_of : (a b k : K) (o p : Ordering) → R a k ≡ o → R b k ≡ p → is_lt (R b a) ≡ false
      → ordering_index o ≤ ordering_index p
  sides_of a b k Less p e f n = omega arith
  sides_of a b k Equal Less e f n =
      let turned : R k b ≡ Greater = t.antisymm k b ∙ ap ordering_reverse f in
      absurd (not_less (R b a) (t.antisymm b a ∙ ap ordering_reverse (t.congr a k b e ∙ turned)) n)
  sides_of a b k Equal Equal e f n = omega arith
  sides_of a b k Equal Greater e f n = omega arith
  sides_of a b k Greater Less e f n =
      absurd (not_less (R b a) (t.trans b k a f (t.antisymm k a ∙ ap ordering_reverse e)) n)
  sides_of a b k Greater Equal e f n =
      absurd (not_less (R b a) (t.congr b k a f ∙ (t.antisymm k a ∙ ap ordering_reverse e)) n)
  sides_of a b k Greater Greater e f n = omega arith

-- what would make a false fact true is false
untrue : (a b : Bool) → (a ≡ true → b ≡ true) → b ≡ false → a ≡ false
untrue true b f e = sym (f refl) ∙ e
untrue false b f e = refl

-- if an order compares keys first, the rows before a key, with it, and after it come in this order,
-- so the key can be found by halving
pub side_by : {A K : Type 0} (order : A → A → Ordering) (key : A → K) (R : K → K → Ordering)
    → IsTotalOrder R → ((x y : A) → is_lt (R (key y) (key x)) ≡ true → is_lt (order y x) ≡ true)
    → (k : K) → IsSideOf order (λ x. R (key x) k)
side_by order key R t begins k =
    λ x y h. sides_of R t (key x) (key y) k (R (key x) k) (R (key y) k) refl refl
    (untrue (is_lt (R (key y) (key x))) (is_lt (order y x)) (begins x y) h)

-- keys made of a number and a text
abbrev pub number_cmp : ℕ × List ℕ → ℕ × List ℕ → Ordering
number_cmp = then_cmp (on (λ p. p.0) nat_cmp) (on (λ p. p.1) (slice_cmp nat_cmp))

-- any two such keys can be compared
pub number_total : IsTotalOrder number_cmp
number_total = then_total (on_total (λ p. p.0) nat_cmp_total)
    (on_total (λ p. p.1) nat_list_cmp_total)

-- what comes before by the first part of a key comes before, whatever the other parts are
pub first_less : (o p : Ordering) → is_lt o ≡ true → is_lt (ordering_then o p) ≡ true
first_less Less p e = refl
first_less Equal p e = cc
first_less Greater p e = cc

-- keys made of a text, a number and a text
abbrev pub three_cmp : List ℕ × ℕ × List ℕ → List ℕ × ℕ × List ℕ → Ordering
three_cmp = then_cmp (then_cmp (on (λ p. p.0) (slice_cmp nat_cmp)) (on (λ p. p.1) nat_cmp))
    (on (λ p. p.2) (slice_cmp nat_cmp))

-- any two such keys can be compared
pub three_total : IsTotalOrder three_cmp
three_total =
    then_total (then_total (on_total (λ p. p.0) nat_list_cmp_total)
    (on_total (λ p. p.1) nat_cmp_total)) (on_total (λ p. p.2) nat_list_cmp_total)

-- what comes before by the first three parts of a key comes before, whatever the fourth is
pub three_less : (a b c d : Ordering) → is_lt (ordering_then (ordering_then a b) c) ≡ true
    → is_lt (ordering_then a (ordering_then b (ordering_then c d))) ≡ true
three_less Less b c d e = refl
three_less Equal Less c d e = refl
three_less Equal Equal c d e = first_less c d e
three_less Equal Greater c d e = cc
three_less Greater b c d e = cc

-- The rows with a key are those on neither side of it

-- texts have the same bytes if neither is before the other
pub texts_meet : (a b : List ℕ) → bytes_eq a b ≡ is_eq (slice_cmp nat_cmp a b)
texts_meet a b = sym (is_eq-slice_cmp a b)

-- numbers are the same if neither is before the other
pub numbers_meet : (m n : ℕ) → (m == n) ≡ is_eq (nat_cmp m n)
numbers_meet m n = grind (arith, nat_tests)

-- keys of two parts are the same if both parts are
pub then_meets : (o p : Ordering) (a b : Bool) → a ≡ is_eq o → b ≡ is_eq p
    → (a && b) ≡ is_eq (ordering_then o p)
then_meets Less p a b e f = rw e refl
then_meets Equal p a b e f = rw e f
then_meets Greater p a b e f = rw e refl

-- keys made of a text, a number and a text are the same if all three are
pub three_meet : (text other : List ℕ) (m n : ℕ) (last end : List ℕ)
    → ((bytes_eq text other && (m == n)) && bytes_eq last end)
    ≡ is_eq (three_cmp (text, m, last) (other, n, end))
three_meet text other m n last end =
    then_meets (ordering_then (slice_cmp nat_cmp text other) (nat_cmp m n))
    (slice_cmp nat_cmp last end) (bytes_eq text other && (m == n)) (bytes_eq last end)
    (then_meets (slice_cmp nat_cmp text other) (nat_cmp m n) (bytes_eq text other) (m == n)
    (texts_meet text other) (numbers_meet m n)) (texts_meet last end)

-- Rows with the same key are on no side of each other

-- what passes the test for Equal is Equal
equal_of : (o : Ordering) → is_eq o ≡ true → o ≡ Equal
equal_of Less e = cc
equal_of Equal e = refl
equal_of Greater e = cc

-- rows with one key: the first is not below the second by their keys
pub alike : {A K : Type 0} (key : A → K) (R : K → K → Ordering) → IsTotalOrder R → (k : K) (x y : A)
    → is_eq (R (key x) k) ≡ true → is_eq (R (key y) k) ≡ true → is_lt (R (key x) (key y)) ≡ false
alike key R t k x y e f =
    let turned : R k (key y) ≡ Equal = t.antisymm k (key y)
    ∙ ap ordering_reverse (equal_of (R (key y) k) f) in
    ap is_lt (t.congr (key x) k (key y) (equal_of (R (key x) k) e) ∙ turned)

-- No row is sought

-- all rows are before what is sought, so the order splits at its end
pub none_splits : {A : Type 0} (order : A → A → Ordering) → IsSideOf order (λ row. Less)
none_splits order x y h = omega arith
