-- All subsets of a set of terms.
use Rattle.std.proofs.Common.{◌≡◌, ◌↔◌, ◌⊎◌, inl, inr, List, [], ◌∷◌, ◌++◌, map, sym, ap, subst, arith}
use Rattle.std.specs.Prelude.{Contains}
use Rattle.std.proofs.lemmas.List.Elements.{Contains-append_left, Contains-append_right, Contains-append_cases}
use Rattle.std.proofs.lemmas.Map.Keys.{sorted_tail}
use Rattle.desk_expr.specs.declared.term.Term.{Term}
use Rattle.desk_expr.specs.Meaning.{IsSubset}
use Rattle.desk_expr.specs.Occurring.{term_order}
use Rattle.desk_alts.specs.Sets.{IsTermSet}
use Rattle.desk_alts.proofs.CostLemmas.{head_cases}
use Rattle.desk_base.proofs.SortedOnce.{is_head, is_later}
use Rattle.desk_base.proofs.Lists.{contains_cases}
use Rattle.desk_alts.proofs.SetLemmas.{head_below, sorted_none, sorted_consed}

mapped : {X Y : Type 0} (f : X → Y) (xs : List X) (x : X) → Contains xs x
    → Contains (map f xs) (f x)
mapped f [] x at = absurd (omega (arith, at.1))
mapped f (y ∷ ys) x at =
    elim (contains_cases y ys x at) [
      | inl is ↦ subst (λ z. Contains (f y ∷ map f ys) (f z)) is (is_head (f y) (map f ys))
      | inr later ↦ is_later (f y) (map f ys) (f x) (mapped f ys x later)
    ]

from_mapped : {X Y : Type 0} (f : X → Y) (xs : List X) (z : Y) → Contains (map f xs) z
    → (x : X) × Contains xs x × (f x ≡ z)
from_mapped f [] z at = absurd (omega (arith, at.1))
from_mapped f (y ∷ ys) z at =
    elim (contains_cases (f y) (map f ys) z at) [
      | inl is ↦ (y, is_head y ys, is)
      | inr later ↦ let rest = from_mapped f ys z later in
          (rest.0, is_later y ys rest.0 rest.1, rest.2)
    ]

-- ---- the subsets with a first term, and those without it

abbrev AreSubsets : List Term → List (List Term) → Type 0
AreSubsets ts sets = (s : List Term) → Contains sets s ↔ (IsTermSet s × IsSubset s ts)

only_empty : (s : List Term) → IsSubset s [] → Contains ([] ∷ []) s
only_empty [] sub = is_head [] []
only_empty (x ∷ xs) sub = absurd (let at = sub x (is_head x xs) in omega (arith, at.1))

with_first : (t : Term) (ts r : List Term) → IsTermSet (t ∷ ts) → IsTermSet r × IsSubset r ts
    → IsTermSet (t ∷ r) × IsSubset (t ∷ r) (t ∷ ts)
with_first t ts r up own = (
  sorted_consed t r own.0 (λ y at. head_below t y ts up (own.1 y at)),
  λ u at. elim (contains_cases t r u at) [
    | inl is ↦ subst (Contains (t ∷ ts)) is (is_head t ts)
    | inr later ↦ is_later t ts u (own.1 u later)
  ],
)

-- a subset lacks the first term, or is a subset of the others and the first term
subset_cases : (s : List Term) (t : Term) (ts : List Term) → IsTermSet s → IsTermSet (t ∷ ts)
    → IsSubset s (t ∷ ts) → IsSubset s ts
    ⊎ ((r : List Term) × (s ≡ t ∷ r) × IsTermSet r × IsSubset r ts)
subset_cases [] t ts up up' sub = inl (λ u at. absurd (omega (arith, at.1)))
subset_cases (x ∷ xs) t ts up up' sub =
    elim (head_cases x t xs ts up up' sub) [
      | inl own ↦ inr (xs, ap (λ (z : Term). z ∷ xs) own.0, sorted_tail term_order x xs up, own.1)
      | inr lacks ↦ inl lacks
    ]

more_subsets : (t : Term) (ts : List Term) (sets : List (List Term)) → IsTermSet (t ∷ ts)
    → AreSubsets ts sets → AreSubsets (t ∷ ts) (sets ++ map (λ (r : List Term). t ∷ r) sets)
more_subsets t ts sets up are s =
    let front : List Term → List Term = λ r. t ∷ r in (
      (λ at. elim (Contains-append_cases sets (map front sets) s at) [
        | inl lacks ↦ let own = (are s).0 lacks in (own.0, λ u h. is_later t ts u (own.1 u h))
        | inr has ↦
            let found = from_mapped front sets s has in
            subst (λ (l : List Term). IsTermSet l × IsSubset l (t ∷ ts)) found.2
            (with_first t ts found.0 up ((are found.0).0 found.1))
      ]),
      (λ h. elim (subset_cases s t ts h.0 up h.1) [
        | inl lacks ↦ Contains-append_left sets (map front sets) s ((are s).1 (h.0, lacks))
        | inr has ↦ Contains-append_right sets (map front sets) s
            (subst (Contains (map front sets)) (sym has.1)
            (mapped front sets has.0 ((are has.0).1 (has.2, has.3))))
      ]),
    )

pub subsets : (ts : List Term) → IsTermSet ts
    → (sets : List (List Term)) × ((s : List Term)
    → Contains sets s ↔ (IsTermSet s × IsSubset s ts))
subsets [] up = (
  [] ∷ [],
  λ s. (
    (λ at. elim (contains_cases [] [] s at) [
      | inl is ↦ subst (λ (l : List Term). IsTermSet l × IsSubset l []) is (sorted_none, λ t h. h)
      | inr later ↦ absurd (omega (arith, later.1))
    ]),
    (λ h. only_empty s h.1),
  ),
)
subsets (t ∷ ts) up =
    let rest = subsets ts (sorted_tail term_order t ts up) in
    (rest.0 ++ map (λ (r : List Term). t ∷ r) rest.0, more_subsets t ts rest.0 up rest.1)
