-- What duties are owed for: in one order, and equally often.
use Rattle.std.proofs.Common.{◌≡◌, ℕ, suc, ◌<◌, Bool, true, false, List, [], ◌∷◌, map, length, refl}
use Rattle.std.proofs.Common.{sym, ap, ◌∙◌, arith, subst, Ordering, Less, Equal, Greater}
use Rattle.std.specs.Prelude.{ℤ, not, ◌&&◌, IsPermutation, MatchBool}
use Rattle.std.specs.Cmp.{signed_Decides}
use Rattle.std.specs.Cmp.Lexicographic.{slice_cmp}
use Rattle.std.specs.List.Sorted.{IsSorted}
use Rattle.std.specs.Ordering.{nat_cmp, int_cmp, is_eq, is_lt, ordering_then}
use Rattle.std.proofs.lemmas.Cmp.{tied_itself}
use Rattle.std.proofs.lemmas.List.Sorted.{IsPermutation-map, IsPermutation-trans, IsPermutation-sym}
use Rattle.std.proofs.lemmas.List.Sorted.{length_permutation, ranks_by}
use Rattle.std.proofs.lemmas.Bool.{and_from}
use Rattle.std.proofs.Math.Bool.{and-false}
use Rattle.desk_base.proofs.Bools.{and_left, and_right, contrary}
use Rattle.desk_base.proofs.Orders.{second_equal, texts_tie}
use Rattle.desk_model.specs.Keys.{below_by}
use Rattle.desk_model.specs.Lists.{ascends, over}
use Rattle.desk_snapshot.specs.Conditions.{Owed}
use Rattle.desk_audit.specs.Owing.{are_alike, owed_in, owed_order, owed_total}
use Rattle.desk_audit.specs.declared.owed.OwedFor.{OwedFor}
use Rattle.desk_sorted.proofs.Sorting.{ascends-sorted, sorted_once}

-- items that tie are the same

then_left : (o p : Ordering) → ordering_then o p ≡ Equal → o ≡ Equal
then_left Less p e = cc
then_left Equal p e = refl
then_left Greater p e = cc

same_number : (m n : ℤ) → int_cmp m n ≡ Equal → m ≡ n
same_number m n e = (signed_Decides m n).0 (ap is_eq e)

same_owed : (x y : Owed) → owed_order x y ≡ Equal → x ≡ y
same_owed x y e =
    let text = slice_cmp nat_cmp in
    let rules = text x.rule y.rule in
    let codes = ordering_then (text x.code y.code) rules in
    let terms = ordering_then (text x.term y.term) codes in
    let packages = ordering_then (text x.package_id y.package_id) terms in
    let documents = ordering_then (int_cmp x.document y.document) packages in
    let e1 : documents ≡ Equal = second_equal (text x.release y.release) documents e in
    let e2 : packages ≡ Equal = second_equal (int_cmp x.document y.document) packages e1 in
    let e3 : terms ≡ Equal = second_equal (text x.package_id y.package_id) terms e2 in
    let e4 : codes ≡ Equal = second_equal (text x.term y.term) codes e3 in
    let e5 : rules ≡ Equal = second_equal (text x.code y.code) rules e4 in
    let release = texts_tie x.release y.release
    (then_left (text x.release y.release) documents e) in
    let document = same_number x.document y.document
    (then_left (int_cmp x.document y.document) packages e1) in
    let package_id = texts_tie x.package_id y.package_id
    (then_left (text x.package_id y.package_id) terms e2) in
    let term = texts_tie x.term y.term (then_left (text x.term y.term) codes e3) in
    let code = texts_tie x.code y.code (then_left (text x.code y.code) rules e4) in
    let rule = texts_tie x.rule y.rule e5 in
    λ i. record {
      release = release i;
      document = document i;
      package_id = package_id i;
      term = term i;
      code = code i;
      rule = rule i;
    }

-- items that are equal at each place are the same

pub alike_same : (xs ys : List OwedFor) → are_alike xs ys ≡ true → map owed_in xs ≡ map owed_in ys
alike_same [] [] e = refl
alike_same [] (y ∷ ys) e = cc
alike_same (x ∷ xs) [] e = cc
alike_same (x ∷ xs) (y ∷ ys) e =
    let here =
    same_owed (owed_in x) (owed_in y)
    (equal (owed_order (owed_in x) (owed_in y))
    (and_left (is_eq (owed_order (owed_in x) (owed_in y))) (are_alike xs ys) e)) in
    let more = alike_same xs ys (and_right (is_eq (owed_order (owed_in x) (owed_in y)))
    (are_alike xs ys) e) in
    λ i. here i ∷ more i
  where
    equal : (o : Ordering) → is_eq o ≡ true → o ≡ Equal
    equal Less e = cc
    equal Equal e = refl
    equal Greater e = cc

pub same_alike : (xs ys : List OwedFor) → map owed_in xs ≡ map owed_in ys → are_alike xs ys ≡ true
same_alike [] [] e = refl
same_alike [] (y ∷ ys) e = cc
same_alike (x ∷ xs) [] e = cc
same_alike (x ∷ xs) (y ∷ ys) e =
    let here : owed_in x ≡ owed_in y = cc in
    let more : map owed_in xs ≡ map owed_in ys = cc in
    and_from (is_eq (owed_order (owed_in x) (owed_in y))) (are_alike xs ys)
    (ap (λ z. is_eq (owed_order z (owed_in y))) here
    ∙ ap is_eq (tied_itself owed_total (owed_in y)))
    (same_alike xs ys more)

-- lists of different lengths
pub uneven : (xs ys : List OwedFor) → (length xs ≡ length ys → ⊥) → are_alike xs ys ≡ false
uneven [] [] h = absurd (h refl)
uneven [] (y ∷ ys) h = refl
uneven (x ∷ xs) [] h = refl
uneven (x ∷ xs) (y ∷ ys) h =
    ap (λ b. is_eq (owed_order (owed_in x) (owed_in y)) && b) (uneven xs ys (λ e. h (ap suc e)))
    ∙ and-false (is_eq (owed_order (owed_in x) (owed_in y)))

-- a sorted list of what is owed is in order

over-mapped : (x : OwedFor) (xs : List OwedFor)
    → over (λ x y. is_lt (owed_order (owed_in x) (owed_in y))) x xs
    ≡ over (below_by owed_order) (owed_in x) (map owed_in xs)
over-mapped x [] = refl
over-mapped x (y ∷ ys) = ap (λ b. not (is_lt (owed_order (owed_in y) (owed_in x))) && b)
    (over-mapped x ys)

ascends-mapped : (xs : List OwedFor)
    → ascends (λ x y. is_lt (owed_order (owed_in x) (owed_in y))) xs
    ≡ ascends (below_by owed_order) (map owed_in xs)
ascends-mapped [] = refl
ascends-mapped (x ∷ xs) = λ i. over-mapped x xs i && ascends-mapped xs i

pub owed_ascends : (xs : List OwedFor) → IsSorted (λ x y. owed_order (owed_in x) (owed_in y)) xs
    → ascends (below_by owed_order) (map owed_in xs) ≡ true
owed_ascends xs sorted = sym (ascends-mapped xs)
    ∙ ascends-sorted (λ x y. is_lt (owed_order (owed_in x) (owed_in y)))
    (ranks_by owed_total owed_in) xs sorted

module _ (owed told : List Owed) (xs xs′ ys ys′ : List OwedFor)
    (are : map owed_in xs ≡ owed) (them : map owed_in ys ≡ told) (left : IsPermutation xs xs′)
    (right : IsPermutation ys ys′) where
  there : IsPermutation owed (map owed_in xs′)
  there = subst (λ l. IsPermutation l (map owed_in xs′)) are (IsPermutation-map owed_in xs xs′ left)

  here : IsPermutation told (map owed_in ys′)
  here = subst (λ l. IsPermutation l (map owed_in ys′)) them
      (IsPermutation-map owed_in ys ys′ right)

  pub judged : IsSorted (λ x y. owed_order (owed_in x) (owed_in y)) xs′
      → IsSorted (λ x y. owed_order (owed_in x) (owed_in y)) ys′
      → (b : Bool) → b ≡ are_alike xs′ ys′
      → MatchBool b (IsPermutation owed told) (IsPermutation owed told → ⊥)
  judged up down true e =
      let same = alike_same xs′ ys′ (sym e) in
      IsPermutation-trans owed (map owed_in xs′) told there
      (subst (λ l. IsPermutation l told) (sym same) (IsPermutation-sym told (map owed_in ys′) here))
  judged up down false e = λ same.
      let between =
      IsPermutation-trans (map owed_in xs′) owed (map owed_in ys′)
      (IsPermutation-sym owed (map owed_in xs′) there)
      (IsPermutation-trans owed told (map owed_in ys′) same here) in
      contrary (are_alike xs′ ys′)
      (same_alike xs′ ys′ (sorted_once owed_order owed_total same_owed (map owed_in xs′)
      (map owed_in ys′)
      (owed_ascends xs′ up) (owed_ascends ys′ down) between))
      (sym e)

-- more is owed than there are duties
pub too_many : {A : Type 0} (owed told : List A) (n : ℕ) → n < length owed → n ≡ length told
    → IsPermutation owed told → ⊥
too_many owed told n more is same = omega (arith, length_permutation owed told same)
