-- The steps of inserting with absorption, and of inserting one after another.
use Rattle.std.proofs.Common.{◌≡◌, ◌↔◌, ◌∙◌, ◌⊎◌, inl, inr, ⊎_elim, ℕ, ◌+◌, ◌<◌, ◌≤◌, List, [], ◌∷◌}
use Rattle.std.proofs.Common.{◌++◌, length, get_or, take, sym, ap, subst, arith, Result, Ok, Err}
use Rattle.std.specs.Prelude.{OnOk}
use Rattle.std.specs.List.{remove}
use Rattle.std.proofs.lemmas.List.Edits.{length-remove, get_or-remove_below}
use Rattle.std.proofs.lemmas.List.{get_or_default, take_more, take_all, map-append, length-map}
use Rattle.std.proofs.Math.ListN.{get_or-map}
use Rattle.std.specs.List.Sorted.{IsPermutation}
use Rattle.std.proofs.lemmas.List.Sorted.{IsPermutation-map, IsPermutation-sym, Contains-permutation}
use Rattle.std.proofs.str.Laws.{order}
use Rattle.desk_alts.specs.declared.masks.Mask.{Mask}
use Rattle.desk_alts.specs.declared.masks.Union.{Union}
use Rattle.desk_alts.specs.Masks.{IsSubset, IsAbove, AreApart, Adds, united, union_masks}
use Rattle.desk_alts.proofs.Bits.{or_within}
use Rattle.desk_alts.proofs.Antichains.{any_of, any_pushed, apart_pushed, apart_removed, above_removed, none_removed}

pub reflexive : (x : Mask) → IsSubset x x
reflexive x = ((λ k h. h), (λ k h. h))

pub transitive : (x y z : Mask) → IsSubset x y → IsSubset y z → IsSubset x z
transitive x y z p q = ((λ k h. q.0 k (p.0 k h)), (λ k h. q.1 k (p.1 k h)))

pub united_within : (x y m : Mask) → IsSubset (united x y) m ↔ (IsSubset x m × IsSubset y m)
united_within x y m =
    let low = or_within x.low y.low m.low in
    let high = or_within x.high y.high m.high in (
      (λ h. (((low.0 h.0).0, (high.0 h.1).0), ((low.0 h.0).1, (high.0 h.1).1))),
      (λ h. (low.1 (h.0.0, h.1.0), high.1 (h.0.1, h.1.1))),
    )

pub on_ok : {T E : Type 0} (P Q : Type 0) (r : Result T E) → (P → Q) → OnOk r P → OnOk r Q
on_ok P Q (Ok x) f h = f h
on_ok P Q (Err e) f h = tt

-- no kept set is a subset of the new one, which is a subset of none before the place, and nothing
-- is lost
pub record Clears (first : List Mask) (xs : List Mask) (z : Mask) (at : ℕ) : Type 0 where
  pub apart : AreApart xs
  pub none : IsAbove xs z → ⊥
  pub passed : (j : ℕ) (d : Mask) → j < at → j < length xs → IsSubset z (get_or xs j d) → ⊥
  pub exact : (m : Mask) → (IsAbove xs m ⊎ IsSubset z m) ↔ (IsAbove first m ⊎ IsSubset z m)

pub clears_none : (xs : List Mask) (z : Mask) → AreApart xs → (IsAbove xs z → ⊥) → Clears xs xs z 0
clears_none xs z apart none = record {
  apart = apart;
  none = none;
  passed = λ j d below within le. omega arith;
  exact = λ m. ((λ h. h), (λ h. h));
}

pub clears_removed : (first xs ys : List Mask) (z got : Mask) (at : ℕ) → at < length xs
    → got ≡ get_or xs at got → IsSubset z got → ys ≡ remove xs at → Clears first xs z at
    → Clears first ys z at
clears_removed first xs ys z got at within is over left s =
    let long = length-remove xs at within in
    let cleared : Clears first (remove xs at) z at = record {
      apart = apart_removed Mask IsSubset xs at within s.apart;
      none = none_removed Mask IsSubset xs z at within s.none;
      passed = λ j d below within' le. s.passed j d below (omega (arith, within', long))
          (subst (IsSubset z) (get_or-remove_below xs at d j below within) le);
      exact = λ m.
          let same = above_removed Mask IsSubset transitive xs z at got within
          (subst (IsSubset z) is over) m in
          ((λ h. (s.exact m).0 (same.0 h)), (λ h. same.1 ((s.exact m).1 h)));
    } in
    subst (λ (l : List Mask). Clears first l z at) (sym left) cleared

pub clears_passed : (first xs : List Mask) (z got : Mask) (at : ℕ) → at < length xs
    → got ≡ get_or xs at got → (IsSubset z got → ⊥) → Clears first xs z at
    → Clears first xs z (at + 1)
clears_passed first xs z got at within is not_over s = record {
  apart = s.apart;
  none = s.none;
  passed = λ j d below within' le.
      ⊎_elim
      (λ under. s.passed j d under within' le)
      (λ over.
      let same : j ≡ at = omega arith in
      not_over (subst (IsSubset z) (ap (λ k. get_or xs k d) same
      ∙ (get_or_default xs at d got within ∙ sym is)) le))
      (order j at);
  exact = s.exact;
}

pub cleared_apart : (first xs ys : List Mask) (z : Mask) (at : ℕ) → length xs ≤ at
    → Clears first xs z at → ys ≡ xs ++ z ∷ [] → AreApart ys
cleared_apart first xs ys z at whole s is =
    subst AreApart (sym is) (apart_pushed Mask IsSubset xs z s.apart s.none
    (λ j d within le. s.passed j d (omega arith) within le))

pub cleared_exact : (first xs ys : List Mask) (z : Mask) (at : ℕ) → Clears first xs z at
    → ys ≡ xs ++ z ∷ [] → Adds first ys (IsSubset z)
cleared_exact first xs ys z at s is m =
    let pushed = any_pushed (λ x. IsSubset x m) xs z in (
      (λ h. (s.exact m).0 (pushed.0 (subst (λ (l : List Mask). IsAbove l m) is h))),
      (λ h. subst (λ (l : List Mask). IsAbove l m) (sym is) (pushed.1 ((s.exact m).1 h))),
    )

-- a set that is covered already adds nothing
pub covered_exact : (xs : List Mask) (z : Mask) → IsAbove xs z → Adds xs xs (IsSubset z)
covered_exact xs z a m = (
  (λ h. inl h),
  (λ h. elim h [ inl b ↦ b | inr le ↦ (a.0, a.1, a.2, a.3, transitive a.1 z m a.4 le) ]),
)

-- ---- one after another

pub adds_nothing : (xs : List Mask) (Q : Mask → Type 0) → ((m : Mask) → Q m → ⊥) → Adds xs xs Q
adds_nothing xs Q none m = ((λ h. inl h), (λ h. elim h [ inl a ↦ a | inr q ↦ absurd (none m q) ]))

pub adds_more : (first xs ys : List Mask) (Q R S : Mask → Type 0) → Adds first xs Q → Adds xs ys R
    → ((m : Mask) → S m ↔ (Q m ⊎ R m)) → Adds first ys S
adds_more first xs ys Q R S so_far more is m = (
  (λ h. elim ((more m).0 h) [
    | inl a ↦ elim ((so_far m).0 a) [ inl b ↦ inl b | inr q ↦ inr ((is m).1 (inl q)) ]
    | inr r ↦ inr ((is m).1 (inr r))
  ]),
  (λ h. elim h [
    | inl b ↦ (more m).1 (inl ((so_far m).1 (inl b)))
    | inr s ↦ elim ((is m).0 s) [
      | inl q ↦ (more m).1 (inl ((so_far m).1 (inr q)))
      | inr r ↦ (more m).1 (inr r)
    ]
  ]),
)

pub adds_same : (first xs : List Mask) (Q S : Mask → Type 0) → Adds first xs Q
    → ((m : Mask) → S m ↔ Q m) → Adds first xs S
adds_same first xs Q S adds is m = (
  (λ h. elim ((adds m).0 h) [ inl b ↦ inl b | inr q ↦ inr ((is m).1 q) ]),
  (λ h. elim h [ inl b ↦ (adds m).1 (inl b) | inr s ↦ (adds m).1 (inr ((is m).0 s)) ]),
)

pub above_none : (m : Mask) → IsAbove [] m → ⊥
above_none m a = omega (arith, a.2)

pub above_take_more : (xs : List Mask) (at : ℕ) (got : Mask) → at < length xs
    → got ≡ get_or xs at got → (m : Mask)
    → IsAbove (take (at + 1) xs) m ↔ (IsAbove (take at xs) m ⊎ IsSubset got m)
above_take_more xs at got within is m =
    let more : take (at + 1) xs ≡ take at xs ++ got ∷ [] = take_more xs at got within
    ∙ ap (λ (x : Mask). take at xs ++ x ∷ []) (sym is) in
    let pushed = any_pushed (λ x. IsSubset x m) (take at xs) got in (
      (λ h. pushed.0 (subst (λ (l : List Mask). IsAbove l m) more h)),
      (λ h. subst (λ (l : List Mask). IsAbove l m) (sym more) (pushed.1 h)),
    )

pub united_more : (mask joint : Mask) (xs : List Mask) (at : ℕ) (got : Mask) → at < length xs
    → got ≡ get_or xs at got → joint ≡ united mask got
    → (m : Mask) → (IsSubset mask m × IsAbove (take (at + 1) xs) m)
    ↔ ((IsSubset mask m × IsAbove (take at xs) m) ⊎ IsSubset joint m)
united_more mask joint xs at got within is both m =
    let more = above_take_more xs at got within is m in
    let join = united_within mask got m in (
      (λ h. elim (more.0 h.1) [
        | inl a ↦ inl (h.0, a)
        | inr le ↦ inr (subst (λ x. IsSubset x m) (sym both) (join.1 (h.0, le)))
      ]),
      (λ h. elim h [
        | inl a ↦ (a.0, more.1 (inl a.1))
        | inr le ↦ let two = join.0 (subst (λ x. IsSubset x m) both le) in
            (two.0, more.1 (inr two.1))
      ]),
    )

pub union_added : (us vs : List Union) (u : Union) → vs ≡ us ++ u ∷ []
    → Adds (union_masks us) (union_masks vs) (IsSubset u.mask)
union_added us vs u is m =
    let next : union_masks vs ≡ union_masks us ++ u.mask ∷ [] = ap union_masks is
    ∙ map-append (λ (v : Union). v.mask) us (u ∷ []) in
    let pushed = any_pushed (λ x. IsSubset x m) (union_masks us) u.mask in (
      (λ h. pushed.0 (subst (λ (l : List Mask). IsAbove l m) next h)),
      (λ h. subst (λ (l : List Mask). IsAbove l m) (sym next) (pushed.1 h)),
    )

-- the mask of the union at a place
pub union_at : (us : List Union) (at : ℕ) (d : Union) → at < length us
    → (at < length (union_masks us))
    × ((get_or us at d).mask ≡ get_or (union_masks us) at (get_or us at d).mask)
union_at us at d within =
    let long = length-map us (λ (u : Union). u.mask) in
    let inside : at < length (union_masks us) = omega (arith, within, long) in (
      inside,
      sym (get_or_default (union_masks us) at (get_or us at d).mask d.mask inside
          ∙ get_or-map (λ (u : Union). u.mask) us at d),
    )

pub above_permuted : (us vs : List Union) → IsPermutation us vs → (m : Mask)
    → IsAbove (union_masks us) m ↔ IsAbove (union_masks vs) m
above_permuted us vs moved m =
    let P = λ (x : Mask). IsSubset x m in
    let there = IsPermutation-map (λ (u : Union). u.mask) us vs moved in
    let back = IsPermutation-sym (union_masks us) (union_masks vs) there in (
      (λ a. any_of P (union_masks vs) a.1
          (Contains-permutation (union_masks us) (union_masks vs) a.1 there (a.0, a.2, a.3)) a.4),
      (λ a. any_of P (union_masks us) a.1
          (Contains-permutation (union_masks vs) (union_masks us) a.1 back (a.0, a.2, a.3)) a.4),
    )

pub product_more : (xs other : List Mask) (at : ℕ) (got : Mask) → at < length xs
    → got ≡ get_or xs at got
    → (m : Mask) → (IsAbove (take (at + 1) xs) m × IsAbove other m)
    ↔ ((IsAbove (take at xs) m × IsAbove other m) ⊎ (IsSubset got m × IsAbove other m))
product_more xs other at got within is m =
    let more = above_take_more xs at got within is m in (
      (λ h. elim (more.0 h.0) [ inl a ↦ inl (a, h.1) | inr le ↦ inr (le, h.1) ]),
      (λ h. elim h [ inl a ↦ (more.1 (inl a.0), a.1) | inr b ↦ (more.1 (inr b.0), b.1) ]),
    )

-- what holds for all that were taken
pub taken_all : (P : List Mask → Type 0) (xs : List Mask) (at : ℕ) → length xs ≤ at → P (take at xs)
    → P xs
taken_all P xs at whole p = subst P (take_all at xs whole) p

pub from_nothing : (first xs : List Mask) (Q : Mask → Type 0) → first ≡ [] → Adds first xs Q
    → (m : Mask) → IsAbove xs m ↔ Q m
from_nothing first xs Q empty adds m = (
  (λ h. elim ((adds m).0 h) [
    | inl a ↦
        absurd (above_none m (subst (λ (l : List Mask). IsAbove l m) empty a))
    | inr q ↦ q
  ]),
  (λ q. (adds m).1 (inr q)),
)
