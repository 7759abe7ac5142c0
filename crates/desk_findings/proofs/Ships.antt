-- What ships: each document has exactly one least set of elements that do; so there is one mark for
-- each package, and one list of ids.
use Rattle.std.proofs.Common.{◌≡◌, ◌∙◌, ◌⊎◌, inl, inr, ℕ, zero, suc, ◌+◌, Bool, true, false, cond}
use Rattle.std.proofs.Common.{List, [], ◌∷◌, length, map, filter, sym, subst, refl, arith}
use Rattle.std.proofs.lemmas.Bool.{cases_Bool, or_left, or_right, or_cases}
use Rattle.std.proofs.lemmas.Cmp.{nat_list_cmp_total, on_total}
use Rattle.std.proofs.lemmas.List.{get_or-map, length-map}
use Rattle.std.proofs.lemmas.List.Sorted.{sum_by-IsPermutation}
use Rattle.std.specs.FinMap.{nat_cmp-IsAntisymmetric, slice_cmp-IsAntisymmetric}
use Rattle.std.specs.List.Sorted.{IsPermutation, IsSorted}
use Rattle.std.specs.Ordering.{is_lt, nat_cmp, on}
use Rattle.std.specs.Cmp.Lexicographic.{slice_cmp}
use Rattle.std.specs.Prelude.{◌==◌, ◌||◌, Contains}
use Rattle.std.specs.List.{range_with_len, sum_by}
use Rattle.std.proofs.lemmas.List.Sums.{sum_by-cons}
use Rattle.desk_base.proofs.SortedOnce.{is_head, is_later}
use Rattle.desk_base.proofs.Numbers.{same_number, numbers_equal}
use Rattle.desk_base.proofs.Bools.{same_answer}
use Rattle.desk_bom.proofs.OneState.{one_sorted}
use Rattle.desk_bom.specs.declared.arrows.Arrow.{Arrow}
use Rattle.desk_bom.specs.Marks.{IsClosedFrom, IsLeastFrom}
use Rattle.desk_bom.specs.Shipping.{is_start, shipping_arrows, AreShipped, AreShippingMarks}
use Rattle.desk_findings.proofs.Ordered.{sorted_list}
use Rattle.desk_findings.specs.Ids.{id_at}
use Rattle.desk_tagvalue.specs.Parts.{DocumentText}

-- ---- a least set that is closed under some arrows: one more arrow either leads on from the set, or doesn't begin in it

contains_cases : (x : Arrow) (xs : List Arrow) (q : Arrow) → Contains (x ∷ xs) q
    → (x ≡ q) ⊎ Contains xs q
contains_cases x xs q (zero, within, is) = inl is
contains_cases x xs q (suc k, within, is) = inr (k, omega arith, is)

-- the starts, and the place to which an arrow leads
abbrev and_to : (ℕ → Bool) → ℕ → ℕ → Bool
and_to start to a = start a || (a == to)

fewer : (start : ℕ → Bool) (x : Arrow) (xs : List Arrow) (set : ℕ → Bool)
    → IsClosedFrom start (x ∷ xs) set → IsClosedFrom start xs set
fewer start x xs set closed = record {
  starts = closed.starts;
  arrows_within = λ y at. closed.arrows_within y (is_later x xs y at);
}

-- the arrow leads on
led : (start : ℕ → Bool) (x : Arrow) (xs : List Arrow) (set on : ℕ → Bool)
    → IsLeastFrom start xs set → set x.from ≡ true → IsLeastFrom (and_to start x.to) xs on
    → IsLeastFrom start (x ∷ xs) on
led start x xs set on first from next = record {
  closed = record {
    starts = λ a is. next.closed.starts a (or_left (start a) (a == x.to) is);
    arrows_within = λ y at. elim (contains_cases x xs y at) [
      | inl same ↦ λ there. subst (λ z. on z.to ≡ true) same
          (next.closed.starts x.to (or_right (start x.to) (x.to == x.to) (same_number x.to)))
      | inr later ↦ next.closed.arrows_within y later
    ];
  };
  least = λ other closed. next.least other (record {
    starts = λ a is. elim (or_cases (start a) (a == x.to) is) [
      | inl starts ↦ closed.starts a starts
      | inr to ↦ subst (λ n. other n ≡ true) (sym (numbers_equal a x.to to))
          (closed.arrows_within x (is_head x xs)
          (first.least other (fewer start x xs other closed) x.from from))
    ];
    arrows_within = λ y at. closed.arrows_within y (is_later x xs y at);
  });
}

-- the arrow begins outside
left : (start : ℕ → Bool) (x : Arrow) (xs : List Arrow) (set : ℕ → Bool) → IsLeastFrom start xs set
    → set x.from ≡ false → IsLeastFrom start (x ∷ xs) set
left start x xs set first outside = record {
  closed = record {
    starts = first.closed.starts;
    arrows_within = λ y at. elim (contains_cases x xs y at) [
      | inl same ↦ λ there. let both = sym outside
          ∙ subst (λ z. set z.from ≡ true) (sym same) there in absurd (cc)
      | inr later ↦ first.closed.arrows_within y later
    ];
  };
  least = λ other closed. first.least other (fewer start x xs other closed);
}

pub least_set : (start : ℕ → Bool) (arrows : List Arrow)
    → (set : ℕ → Bool) × IsLeastFrom start arrows set
least_set start [] = (
  start,
  record {
    closed = record { starts = λ a is. is; arrows_within = λ x at. absurd (omega (arith, at.1)) };
    least = λ other closed a is. closed.starts a is;
  },
)
least_set start (x ∷ xs) =
    let first = least_set start xs in
    elim (cases_Bool (first.0 x.from)) [
      | inl from ↦ let next = least_set (and_to start x.to) xs in
          (next.0, led start x xs first.0 next.0 first.1 from next.1)
      | inr outside ↦ (first.0, left start x xs first.0 first.1 outside)
    ]

pub one_least : (start : ℕ → Bool) (arrows : List Arrow) (set other : ℕ → Bool)
    → IsLeastFrom start arrows set → IsLeastFrom start arrows other → (a : ℕ) → set a ≡ other a
one_least start arrows set other h k a = same_answer (set a) (other a) (h.least other k.closed a)
    (k.least set h.closed a)

map_same : (f g : ℕ → Bool) (ks : List ℕ) → ((k : ℕ) → f k ≡ g k) → map f ks ≡ map g ks
map_same f g [] same = refl
map_same f g (k ∷ ks) same = λ i. same k i ∷ map_same f g ks same i

pub one_marks : (d : DocumentText) (as' bs : List Bool) → AreShippingMarks d as'
    → AreShippingMarks d bs → as' ≡ bs
one_marks d as' bs a b =
    a.are
    ∙ map_same (λ k. a.set (k + 1)) (λ k. b.set (k + 1)) (range_with_len 0 (length d.packages))
    (λ k. one_least (is_start d) (shipping_arrows d) a.set b.set a.least b.least (k + 1))
    ∙ sym b.are

-- ---- marks and places

pub some_marks : (d : DocumentText) → (marks : List Bool) × AreShippingMarks d marks
some_marks d =
    let least = least_set (is_start d) (shipping_arrows d) in (
      map (λ k. least.0 (k + 1)) (range_with_len 0 (length d.packages)),
      record { set = least.0; least = least.1; are = refl },
    )

pub some_places : (d : DocumentText) → (places : List ℕ) × AreShipped d places
some_places d =
    let least = least_set (is_start d) (shipping_arrows d) in
    let sorted = sorted_list (on (id_at d) (slice_cmp nat_cmp))
    (on_total (id_at d) nat_list_cmp_total)
    (filter (λ k. least.0 (k + 1)) (range_with_len 0 (length d.packages))) in
    (sorted.0, record { set = least.0; least = least.1; each = sorted.1; ordered = sorted.2 })

filter_same : (f g : ℕ → Bool) (ks : List ℕ) → ((k : ℕ) → f k ≡ g k) → filter f ks ≡ filter g ks
filter_same f g [] same = refl
filter_same f g (k ∷ ks) same = λ i. cond (same k i) (k ∷ filter_same f g ks same i)
    (filter_same f g ks same i)

sum-map : (g : List ℕ → ℕ) (f : ℕ → List ℕ) (xs : List ℕ)
    → sum_by g (map f xs) ≡ sum_by (λ x. g (f x)) xs
sum-map g f [] = refl
sum-map g f (x ∷ xs) = omega (
  arith,
  sum_by-cons g (f x) (map f xs),
  sum_by-cons (λ y. g (f y)) x xs,
  sum-map g f xs,
)

sorted_ids : (f : ℕ → List ℕ) (ks : List ℕ) → IsSorted (λ j k. slice_cmp nat_cmp (f j) (f k)) ks
    → IsSorted (slice_cmp nat_cmp) (map f ks)
sorted_ids f ks up = λ k d low within.
    let size : length (map f ks) ≡ length ks = length-map ks f in
    let next = get_or-map f ks (k + 1) 0 d (omega (arith, within, size)) in
    let here = get_or-map f ks k 0 d (omega (arith, within, size)) in
    (λ i. is_lt (slice_cmp nat_cmp (next i) (here i))) ∙ up k 0 low (omega (arith, within, size))

pub one_listing : (d : DocumentText) (as' bs : List ℕ) → AreShipped d as' → AreShipped d bs
    → map (id_at d) as' ≡ map (id_at d) bs
one_listing d as' bs a b =
    let range = range_with_len 0 (length d.packages) in
    let same : filter (λ k. a.set (k + 1)) range ≡ filter (λ k. b.set (k + 1)) range =
    filter_same (λ k. a.set (k + 1)) (λ k. b.set (k + 1)) range
    (λ k. one_least (is_start d) (shipping_arrows d) a.set b.set a.least b.least (k + 1)) in
    let from : IsPermutation (filter (λ k. b.set (k + 1)) range) as' =
    subst (λ ks. IsPermutation ks as') same a.each in
    let sums : (f : ℕ → ℕ) → sum_by f as' ≡ sum_by f bs =
    λ f. sum_by-IsPermutation f (filter (λ k. b.set (k + 1)) range) as' from
    ∙ sym (sum_by-IsPermutation f (filter (λ k. b.set (k + 1)) range) bs b.each) in
    one_sorted (slice_cmp nat_cmp) nat_list_cmp_total
    (slice_cmp-IsAntisymmetric nat_cmp-IsAntisymmetric) (map (id_at d) as') (map (id_at d) bs)
    (sorted_ids (id_at d) as' a.ordered) (sorted_ids (id_at d) bs b.ordered)
    (λ g. sum-map g (id_at d) as' ∙ (sums (λ k. g (id_at d k)) ∙ sym (sum-map g (id_at d) bs)))
