-- Rows that are sought in blocks, and rows that go into one of them.
use Rattle.std.proofs.Common.{◌≡◌, ℕ, zero, suc, ◌+◌, ◌-◌, ◌≤◌, Bool, true, false, List, [], ◌∷◌}
use Rattle.std.proofs.Common.{◌++◌, length, take, drop, sym, refl, ap, ◌∙◌, arith}
use Rattle.std.specs.Prelude.{filter, not, Vec}
use Rattle.std.specs.List.{list_all, list_any}
use Rattle.std.specs.Ordering.{is_lt, is_le, is_eq}
use Rattle.std.specs.Cmp.{IsTotalOrder}
use Rattle.std.specs.declared.alloc.Global.{Global}
use Rattle.std.specs.declared.cmp.Ordering.{Ordering}
use Rattle.std.specs.declared.cmp.Ordering.TheVariants.{Less, Equal, Greater}
use Rattle.std.proofs.lemmas.List.{append-nil, drop_all}
use Rattle.std.proofs.lemmas.List.Elements.{filter-append}
use Rattle.std.proofs.lemmas.List.Folds.{list_all-append}
use Rattle.std.proofs.lemmas.Bool.{and_from}
use Rattle.desk_model.specs.Keys.{below_by}
use Rattle.desk_sorted.specs.Blocks.{is_between, rows_in, IsBlockRun}
use Rattle.desk_sorted.specs.Sides.{side_by}
use Rattle.desk_sorted.proofs.Blocking.{Turns}
use Rattle.desk_sorted.proofs.Halving.{le_by}
use Rattle.desk_sorted.proofs.Halving.{turned_le, turned_gt}
use Rattle.desk_sorted.proofs.Blocking.{rows_split}
use Rattle.desk_base.proofs.Bools.{and_left, and_right, or_left, or_right}
use Rattle.desk_base.proofs.Lists.{filter_none}

-- a list from a place on, and from a further place on

drop_none : {A : Type 0} (n : ℕ) → drop {A = A} n [] ≡ []
drop_none zero = refl
drop_none (suc n) = refl

pub drop_further : {A : Type 0} (low n high : ℕ) (xs : List A) → low + n ≡ high
    → drop n (drop low xs) ≡ drop high xs
drop_further zero n high xs e = let same : n ≡ high = omega (arith, e) in ap (λ k. drop k xs) same
drop_further (suc low) n zero xs e = absurd (omega (arith, e))
drop_further (suc low) n (suc high) [] e = drop_none n
drop_further (suc low) n (suc high) (x ∷ xs) e = drop_further low n high xs (omega (arith, e))

pub rows_three : {R : Type 0} (low high : ℕ) (bs : List (Vec R Global)) → low ≤ high
    → rows_in (take low bs) ++ (rows_in (take (high - low) (drop low bs)) ++ rows_in (drop high bs))
    ≡ rows_in bs
rows_three {R = R} low high bs le =
    let far : low + (high - low) ≡ high = omega (arith, le) in
    ap (λ l. rows_in (take low bs) ++ l)
    (ap (λ (d : List (Vec R Global)). rows_in (take (high - low) (drop low bs)) ++ rows_in d)
    (sym (drop_further low (high - low) high bs far)) ∙ rows_split (high - low) (drop low bs))
    ∙ rows_split low bs

-- rows that are not sought

filter_rest : {A : Type 0} (test : A → Bool) (xs : List A) → list_any test xs ≡ false
    → filter (λ x. not (test x)) xs ≡ xs
filter_rest test [] e = refl
filter_rest test (x ∷ xs) e = rw (or_left (test x) (list_any test xs) e)
    (ap (λ l. x ∷ l) (filter_rest test xs (or_right (test x) (list_any test xs) e)))

lt_apart : (o : Ordering) → is_lt o ≡ true → is_eq o ≡ false
lt_apart Less e = refl
lt_apart Equal e = cc
lt_apart Greater e = cc

gt_apart : (o : Ordering) → is_le o ≡ false → is_eq o ≡ false
gt_apart Less e = cc
gt_apart Equal e = cc
gt_apart Greater e = refl

module _ {A : Type 0} (test : A → Bool) (side : A → Ordering)
    (meets : (x : A) → test x ≡ is_eq (side x)) where
  none_before : (xs : List A) → list_all (λ x. is_lt (side x)) xs ≡ true → list_any test xs ≡ false
  none_before [] e = refl
  none_before (x ∷ xs) e =
      let here : test x ≡ false = meets x
      ∙ lt_apart (side x) (and_left (is_lt (side x)) (list_all (λ y. is_lt (side y)) xs) e) in
      rw here (none_before xs (and_right (is_lt (side x)) (list_all (λ y. is_lt (side y)) xs) e))

  none_behind : (xs : List A) → list_any (λ x. is_le (side x)) xs ≡ false → list_any test xs ≡ false
  none_behind [] e = refl
  none_behind (x ∷ xs) e =
      let here : test x ≡ false = meets x
      ∙ gt_apart (side x) (or_left (is_le (side x)) (list_any (λ y. is_le (side y)) xs) e) in
      rw here (none_behind xs (or_right (is_le (side x)) (list_any (λ y. is_le (side y)) xs) e))

-- all rows that are sought are in the run of blocks
pub found_in_run : {R : Type 0} (test : R → Bool) (side : R → Ordering)
    → ((x : R) → test x ≡ is_eq (side x)) → (bs : List (Vec R Global)) (low high : ℕ)
    → IsBlockRun side bs low high
    → filter test (rows_in (take (high - low) (drop low bs))) ≡ filter test (rows_in bs)
found_in_run test side meets bs low high run =
    let front = rows_in (take low bs) in
    let middle = rows_in (take (high - low) (drop low bs)) in
    let back = rows_in (drop high bs) in
    sym (ap (filter test) (sym (rows_three low high bs run.ordered))
    ∙ (filter-append test front (middle ++ back)
    ∙ (ap (λ l. l ++ filter test (middle ++ back))
    (filter_none test front (none_before test side meets front run.before))
    ∙ (filter-append test middle back
    ∙ (ap (λ l. filter test middle ++ l)
    (filter_none test back (none_behind test side meets back run.behind))
    ∙ append-nil (filter test middle))))))

-- the others stay when those are cut out of the run of blocks
pub cut_in_run : {R : Type 0} (test : R → Bool) (side : R → Ordering)
    → ((x : R) → test x ≡ is_eq (side x)) → (bs : List (Vec R Global)) (low high : ℕ) (cut : List R)
    → IsBlockRun side bs low high
    → cut ≡ filter (λ x. not (test x)) (rows_in (take (high - low) (drop low bs)))
    → rows_in (take low bs) ++ (cut ++ rows_in (drop high bs))
    ≡ filter (λ x. not (test x)) (rows_in bs)
cut_in_run {R = R} test side meets bs low high cut run e =
    let left : R → Bool = λ x. not (test x) in
    let front = rows_in (take low bs) in
    let middle = rows_in (take (high - low) (drop low bs)) in
    let back = rows_in (drop high bs) in
    sym (ap (filter left) (sym (rows_three low high bs run.ordered))
    ∙ (filter-append left front (middle ++ back)
    ∙ (ap (λ l. l ++ filter left (middle ++ back))
    (filter_rest test front (none_before test side meets front run.before))
    ∙ ap (λ l. front ++ l) (filter-append left middle back
    ∙ (ap (λ l. l ++ filter left back) (sym e)
    ∙ ap (λ l. cut ++ l) (filter_rest test back (none_behind test side meets back run.behind)))))))

-- the block into which a row goes

pub all_further : {R : Type 0} (test : R → Bool) (bs : List (Vec R Global)) (at n : ℕ) → at ≤ n
    → list_all test (rows_in (take n bs)) ≡ true → list_all test (rows_in (take at bs)) ≡ true
all_further test bs zero n le e = refl
all_further test [] (suc at) n le e = refl
all_further test (b ∷ bs) (suc at) zero le e = absurd (omega (arith, le))
all_further test (b ∷ bs) (suc at) (suc n) le e =
    let split = sym (list_all-append test b.items (rows_in (take n bs))) ∙ e in
    list_all-append test b.items (rows_in (take at bs))
    ∙ and_from (list_all test b.items) (list_all test (rows_in (take at bs)))
    (and_left (list_all test b.items) (list_all test (rows_in (take n bs))) split)
    (all_further test bs at n (omega (arith, le))
    (and_right (list_all test b.items) (list_all test (rows_in (take n bs))) split))

module _ {A : Type 0} {order : A → A → Ordering} (t : IsTotalOrder order) (row : A) where
  none_above : (xs : List A) → list_all (λ y. is_le (order y row)) xs ≡ true
      → list_any (below_by order row) xs ≡ false
  none_above [] e = refl
  none_above (x ∷ xs) e =
      rw (turned_le (order row x) (order x row) (t.antisymm row x)
      (and_left (is_le (order x row)) (list_all (λ y. is_le (order y row)) xs) e))
      (none_above xs (and_right (is_le (order x row)) (list_all (λ y. is_le (order y row)) xs) e))

  all_above : (xs : List A) → list_any (λ y. is_le (order y row)) xs ≡ false
      → list_all (below_by order row) xs ≡ true
  all_above [] e = refl
  all_above (x ∷ xs) e =
      and_from (below_by order row x) (list_all (below_by order row) xs)
      (turned_gt (order row x) (order x row) (t.antisymm row x)
      (or_left (is_le (order x row)) (list_any (λ y. is_le (order y row)) xs) e))
      (all_above xs (or_right (is_le (order x row)) (list_any (λ y. is_le (order y row)) xs) e))

  pub between_of : (front back : List A) → list_all (λ y. is_le (order y row)) front ≡ true
      → list_any (λ y. is_le (order y row)) back ≡ false
      → is_between (below_by order) front back row ≡ true
  between_of front back e f =
      and_from (not (list_any (below_by order row) front)) (list_all (below_by order row) back)
      (ap not (none_above front e)) (all_above back f)

pub none_left : {R : Type 0} (test : R → Bool) (bs : List (Vec R Global)) (n : ℕ) → length bs ≤ n
    → list_any test (rows_in (drop n bs)) ≡ false
none_left {R = R} test bs n le = ap (λ (d : List (Vec R Global)). list_any test (rows_in d))
    (drop_all n bs le)

-- rows that come after one that is at most a row are at most it too
pub row_turns : {A : Type 0} {order : A → A → Ordering} → IsTotalOrder order → (row : A)
    → Turns (below_by order) (λ y. is_le (order y row))
row_turns {order = order} total row x y out e = le_by (order x row) (order y row)
    (side_by order (λ x. x) order total (λ x y e. e) row x y out) e
