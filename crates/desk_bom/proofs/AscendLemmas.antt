-- Arrows in their order, each once.
use Rattle.std.proofs.Common.{◌≡◌, ◌∙◌, inl, inr, ℕ, ◌+◌, ◌<◌, List, length, take, drop, get_or, ap}
use Rattle.std.proofs.Common.{sym, subst, arith, length-take, length-drop, get_or-take, get_or-drop}
use Rattle.std.specs.Prelude.{Contains, map}
use Rattle.std.specs.List.Sorted.{IsNonDecreasingBy, IsStrictlyIncreasing, IsStrictlySortedBy}
use Rattle.std.specs.Ordering.{nat_cmp, ordering_then, MatchOrdering}
use Rattle.std.specs.Cmp.{ranks}
use Rattle.std.specs.declared.cmp.Ordering.{Ordering}
use Rattle.std.specs.declared.cmp.Ordering.TheVariants.{Less, Equal, Greater}
use Rattle.std.proofs.lemmas.Bool.{cases_lt}
use Rattle.std.proofs.lemmas.List.{get_or-map, length-map}
use Rattle.std.proofs.lemmas.List.Elements.{Contains-get_or}
use Rattle.std.proofs.lemmas.Map.Keys.{Less-from_sorted}
use Rattle.desk_bom.specs.declared.arrows.Arrow.{Arrow}
use Rattle.desk_bom.specs.Targets.{IsBefore, Ascend}

-- a part of arrows that ascend
pub ascend_drop : (n : ℕ) (xs : List Arrow) → Ascend xs → Ascend (drop n xs)
ascend_drop n xs up i j d lt within =
    let l = length-drop n xs in
    subst (λ y. IsBefore y (get_or (drop n xs) j d)) (sym (get_or-drop n xs i d))
    (subst (λ y. IsBefore (get_or xs (n + i) d) y) (sym (get_or-drop n xs j d))
    (up (n + i) (n + j) d (omega arith) (omega arith)))

pub ascend_take : (n : ℕ) (xs : List Arrow) → Ascend xs → Ascend (take n xs)
ascend_take n xs up i j d lt within =
    let l = length-take n xs in
    subst (λ y. IsBefore y (get_or (take n xs) j d)) (sym (get_or-take n xs i d (omega arith)))
    (subst (λ y. IsBefore (get_or xs i d) y) (sym (get_or-take n xs j d (omega arith)))
    (up i j d lt (omega arith)))

-- they are sorted by where they come from
pub ascend_from : (xs : List Arrow) → Ascend xs → IsNonDecreasingBy (λ x. x.from) xs
ascend_from xs up i j d le within =
    elim (cases_lt i j) [
      | inl lt ↦ (up i j d lt within).0
      | inr ge ↦ let e : i ≡ j = omega arith in omega (arith, ap (λ k. (get_or xs k d).from) e)
    ]

-- if they come from one place, what they lead to rises
pub ascend_to : (xs : List Arrow) (place : ℕ) → Ascend xs
    → ((x : Arrow) → Contains xs x → x.from ≡ place) → IsStrictlyIncreasing (map (λ x. x.to) xs)
ascend_to xs place up from k within =
    let long = length-map xs (λ (x : Arrow). x.to) in
    let d : Arrow = record { from = place; to = 0 } in
    let here : k < length xs = omega arith in
    let next : k + 1 < length xs = omega arith in
    let a = from (get_or xs k d) (Contains-get_or xs k d here) in
    let b = from (get_or xs (k + 1) d) (Contains-get_or xs (k + 1) d next) in
    let rises : (get_or xs k d).to < (get_or xs (k + 1) d).to =
    (up k (k + 1) d (omega arith) next).1 (a ∙ sym b) in
    subst (λ m. m < get_or (map (λ (x : Arrow). x.to) xs) (k + 1) 0)
    (sym (get_or-map (λ (x : Arrow). x.to) xs k d 0 here))
    (subst (λ m. (get_or xs k d).to < m)
    (sym (get_or-map (λ (x : Arrow). x.to) xs (k + 1) d 0 next)) rises)

-- what is in order after it was sorted and has each arrow once
before_from_less : (x y : Arrow) → ordering_then (nat_cmp x.from y.from) (nat_cmp x.to y.to) ≡ Less
    → IsBefore x y
before_from_less x y less = at (nat_cmp x.from y.from) (nat_cmp x.to y.to) (ranks x.from y.from)
    (ranks x.to y.to) less
  where
    at : (r s : Ordering) → MatchOrdering r (x.from < y.from) (x.from ≡ y.from) (y.from < x.from)
        → MatchOrdering s (x.to < y.to) (x.to ≡ y.to) (y.to < x.to) → ordering_then r s ≡ Less
        → IsBefore x y
    at Less s low also h = (omega (arith, low), λ e. absurd (omega (arith, low, e)))
    at Equal Less same low h = (omega (arith, same), λ e. low)
    at Equal Equal same also h = absurd cc
    at Equal Greater same also h = absurd cc
    at Greater s high also h = absurd cc

pub ascend_from_sorted : (R : Arrow → Arrow → Ordering)
    → ((x y : Arrow) → R x y ≡ ordering_then (nat_cmp x.from y.from) (nat_cmp x.to y.to))
    → (xs : List Arrow) → IsStrictlySortedBy R xs → Ascend xs
ascend_from_sorted R is xs sorted i j d lt within =
    let x = get_or xs i d in
    let y = get_or xs j d in
    before_from_less x y (sym (is x y) ∙ Less-from_sorted R xs i j d sorted lt within)
