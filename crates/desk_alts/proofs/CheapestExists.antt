-- Each tree has one cheapest set, or none with costs.
use Rattle.std.proofs.Common.{◌≡◌, ◌∙◌, ◌⊎◌, inl, inr, ℕ, zero, suc, ◌+◌, List, [], ◌∷◌, length}
use Rattle.std.proofs.Common.{get_or, add-one, sym, subst, refl, arith, Option, Some, None}
use Rattle.std.specs.Prelude.{Any, Contains, IsSome}
use Rattle.std.proofs.lemmas.List.{get_or_default}
use Rattle.std.proofs.lemmas.List.Elements.{All-nil, All-cons, All-head, All-tail}
use Rattle.std.proofs.str.Laws.{order}
use Rattle.desk_expr.specs.declared.term.Term.{Term}
use Rattle.desk_expr.specs.Tree.{Tree}
use Rattle.desk_expr.specs.Meaning.{Holds, IsMinimal, IsSubset, Without}
use Rattle.desk_alts.proofs.Minimal.{holds_more}
use Rattle.desk_alts.proofs.SameTerms.{without_is_list}
use Rattle.desk_alts.proofs.Decide.{Decided}
use Rattle.desk_alts.specs.Costs.{HasCosts, set_cost, IsUpTo, IsCheapest, HasNoCosts, IsLeastOf}
use Rattle.desk_alts.specs.Sets.{IsTermSet, set_order, AreAlternatives}
use Rattle.desk_alts.specs.SetLaws.{set_total}
use Rattle.desk_alts.proofs.Antichains.{any_of}
use Rattle.desk_alts.proofs.CostLemmas.{least_none, least_first, least_new, least_kept, none_cheapest, is_cheapest}
use Rattle.desk_base.proofs.SortedOnce.{not_both}
use Rattle.desk_base.proofs.Lists.{contains_cases}
use Rattle.desk_alts.proofs.ListingExists.{as_set, holds_or_not, alternatives_exist}

-- ---- each set that satisfies a tree has a minimal subset

-- a subset that satisfies the tree, and from which none of these terms can go
record IsReduced (e : Tree) (terms s few : List Term) : Type 0 where
  subset : IsSubset few s
  holds : Holds (Contains few) e
  needed : (t : Term) → Contains terms t → Contains few t → Holds (Without few t) e → ⊥

reduced : (e : Tree) (terms s : List Term) → Holds (Contains s) e
    → (few : List Term) × IsReduced e terms s few
reduced e [] s holds = (
  s,
  record {
    subset = λ t at. at;
    holds = holds;
    needed = λ t none. absurd (omega (arith, none.1));
  },
)
reduced e (x ∷ xs) s holds =
    let rest = without_is_list s x in
    elim (holds_or_not e rest.0) [
      | inl spare ↦
          let found = reduced e xs rest.0 spare in (
            found.0,
            record {
              subset = λ t at. ((rest.1 t).0 (found.1.subset t at)).0;
              holds = found.1.holds;
              needed = λ t listed at less. elim (contains_cases x xs t listed) [
                | inl is ↦ absurd (((rest.1 t).0 (found.1.subset t at)).1 (sym is))
                | inr later ↦ found.1.needed t later at less
              ];
            },
          )
      | inr binds ↦
          let found = reduced e xs s holds in (
            found.0,
            record {
              subset = found.1.subset;
              holds = found.1.holds;
              needed = λ t listed at less. elim (contains_cases x xs t listed) [
                | inl is ↦ absurd (binds (holds_more (Without found.0 t) (Contains rest.0)
                    (λ u own. (rest.1 u).1 (found.1.subset u own.0, λ same. own.1 (same ∙ is))) e
                    less))
                | inr later ↦ found.1.needed t later at less
              ];
            },
          )
    ]

minimal_subset : (e : Tree) (s : List Term) → Holds (Contains s) e
    → (few : List Term) × IsTermSet few × IsMinimal few e × IsSubset few s
minimal_subset e s holds =
    let found = reduced e s s holds in
    let own = as_set found.0 in (
      own.0,
      own.1,
      (
        holds_more (Contains found.0) (Contains own.0) (λ t at. (own.2 t).1 at) e found.1.holds,
        λ fewer proper h.
            let lacked = proper.1 in
            let at = (own.2 lacked).0 proper.2 in
            found.1.needed lacked (found.1.subset lacked at) at
            (holds_more (Contains fewer) (Without found.0 lacked)
            (λ t has. (
              (own.2 t).0 (proper.0 t has),
              λ is. proper.3 (subst (Contains fewer) is has),
            )) e h),
      ),
      (λ t at. found.1.subset t ((own.2 t).0 at)),
    )

contained : (e : Tree) (sets : List (List Term)) → AreAlternatives e sets → (s : List Term)
    → Holds (Contains s) e → Any (λ m. IsSubset m s) sets
contained e sets are s holds =
    let found = minimal_subset e s holds in
    any_of (λ m. IsSubset m s) sets found.0 (are.every found.0 found.1 found.2) found.3

-- ---- the first set of least cost

cost_or_not : (o : Option ℕ) → Decided (IsSome o)
cost_or_not None = inr (λ has. cc)
cost_or_not (Some c) = inl refl

costs_or_not : (cost : Term → Option ℕ) (s : List Term) → Decided (HasCosts cost s)
costs_or_not cost [] = inl (All-nil (λ t. IsSome (cost t)))
costs_or_not cost (t ∷ ts) =
    elim (cost_or_not (cost t)) [
      | inr lacks ↦ inr (λ all. lacks (All-head (λ u. IsSome (cost u)) t ts all))
      | inl has ↦ elim (costs_or_not cost ts) [
        | inl rest ↦ inl (All-cons (λ u. IsSome (cost u)) t ts has rest)
        | inr lacks ↦ inr (λ all. lacks (All-tail (λ u. IsSome (cost u)) t ts all))
      ]
    ]

abbrev SomeLeast : (Term → Option ℕ) → List (List Term) → ℕ → Type 0
SomeLeast cost sets n = (best : Option (ℕ × ℕ)) × IsLeastOf cost sets n best

next_least : (cost : Term → Option ℕ) (sets : List (List Term)) (n : ℕ) (best : Option (ℕ × ℕ))
    → HasCosts cost (get_or sets n []) → IsLeastOf cost sets n best → SomeLeast cost sets (n + 1)
next_least cost sets n None costs so_far = (
  Some (n, set_cost cost (get_or sets n [])),
  least_first cost sets n (set_cost cost (get_or sets n [])) costs refl so_far,
)
next_least cost sets n (Some best) costs so_far =
    let price = set_cost cost (get_or sets n []) in
    elim (order price best.1) [
      | inl less ↦ (
        Some (n, price),
        least_new cost sets n best.0 best.1 price costs refl less so_far,
      )
      | inr more ↦ (Some best, least_kept cost sets n best.0 best.1 price refl more so_far)
    ]

some_least : (cost : Term → Option ℕ) (sets : List (List Term)) (n : ℕ) → SomeLeast cost sets n
some_least cost sets zero = (None, λ j none. absurd (omega arith))
some_least cost sets (suc n) =
    let so_far = some_least cost sets n in
    subst (SomeLeast cost sets) (add-one n)
    (elim (costs_or_not cost (get_or sets n [])) [
      | inl costs ↦ next_least cost sets n so_far.0 costs so_far.1
      | inr lacks ↦ (so_far.0, least_none cost sets n so_far.0 lacks so_far.1)
    ])

abbrev CheapestOrNone : (Term → Option ℕ) → Tree → Type 0
CheapestOrNone cost e = ((price : ℕ) × (set : List Term) × IsCheapest cost e price set)
    ⊎ HasNoCosts cost e

cheapest_by : (cost : Term → Option ℕ) (e : Tree) (sets : List (List Term)) (best : Option (ℕ × ℕ))
    → AreAlternatives e sets → IsLeastOf cost sets (length sets) best → CheapestOrNone cost e
cheapest_by cost e sets None are least = inr (none_cheapest cost e sets are.only
    (contained e sets are) (length sets) (omega arith) least)
cheapest_by cost e sets (Some best) are least =
    let set = get_or sets best.0 [] in
    inl (
      best.1,
      set,
      is_cheapest cost e sets are.only (contained e sets are) are.ordered (length sets) best.0
          best.1 set refl (get_or_default sets best.0 [] set least.0) least,
    )

pub cheapest_exists : (cost : Term → Option ℕ) (e : Tree)
    → ((price : ℕ) × (set : List Term) × IsCheapest cost e price set) ⊎ HasNoCosts cost e
cheapest_exists cost e =
    let own = alternatives_exist e in
    let least = some_least cost own.0 (length own.0) in
    cheapest_by cost e own.0 least.0 own.1 least.1

-- ---- one cheapest set

same_place : (s r : List Term) → IsUpTo s r → IsUpTo r s → s ≡ r
same_place s r up down =
    elim up [
      | inl is ↦ is
      | inr before ↦ elim down [
        | inl is ↦ sym is
        | inr after ↦ absurd (not_both set_order set_total s r before after)
      ]
    ]

pub one_cheapest : (cost : Term → Option ℕ) (e : Tree) (p q : ℕ) (s r : List Term)
    → IsCheapest cost e p s → IsCheapest cost e q r → (p ≡ q) × (s ≡ r)
one_cheapest cost e p q s r a b =
    elim (a.least r b.ordered b.holds b.costs) [
      | inl under ↦ absurd (elim (b.least s a.ordered a.holds a.costs) [
        | inl over ↦ omega (arith, under, over, a.is_price, b.is_price)
        | inr tie ↦ omega (arith, under, tie.0, a.is_price, b.is_price)
      ])
      | inr tie ↦ elim (b.least s a.ordered a.holds a.costs) [
        | inl over ↦ absurd (omega (arith, tie.0, over, a.is_price, b.is_price))
        | inr other ↦ (tie.0 ∙ sym b.is_price, same_place s r tie.1 other.1)
      ]
    ]

pub cheapest_has_costs : (cost : Term → Option ℕ) (e : Tree) (price : ℕ) (set : List Term)
    → IsCheapest cost e price set → HasNoCosts cost e → ⊥
cheapest_has_costs cost e price set is none = none set is.holds is.costs
