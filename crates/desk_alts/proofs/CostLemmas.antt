-- What sets of terms cost, and which one is the cheapest.
use Rattle.std.proofs.Common.{◌≡◌, ◌∙◌, ◌⊎◌, inl, inr, ⊎_elim, ℕ, ◌+◌, ◌<◌, ◌≤◌, List, [], ◌∷◌}
use Rattle.std.proofs.Common.{◌++◌, length, get_or, take, sym, ap, ap₂, subst, refl, arith, Option}
use Rattle.std.proofs.Common.{Some, None}
use Rattle.std.specs.Prelude.{All, Any, Contains, IsSome, sum_by}
use Rattle.std.specs.Option.{unwrap_or}
use Rattle.std.specs.Ordering.{nat_cmp, ordering_then}
use Rattle.std.specs.declared.cmp.Ordering.{Ordering}
use Rattle.std.specs.declared.cmp.Ordering.TheVariants.{Less}
use Rattle.std.specs.List.Sorted.{IsStrictlySortedBy}
use Rattle.std.specs.Cmp.Lexicographic.{slice_cmp}
use Rattle.std.proofs.lemmas.List.{get_or_default, take_more}
use Rattle.std.proofs.lemmas.List.Elements.{All-more, All-get_or, All-contains, Contains-get_or}
use Rattle.std.proofs.lemmas.List.Sums.{sum_by_push, sum_by-cons}
use Rattle.std.proofs.lemmas.Map.Keys.{Less-from_sorted, sorted_tail}
use Rattle.std.proofs.lemmas.Bool.{cases_eq}
use Rattle.std.proofs.lemmas.Bool.Decides.{nat_tests}
use Rattle.std.proofs.str.Laws.{order}
use Rattle.desk_base.proofs.SortedOnce.{is_later}
use Rattle.desk_expr.specs.declared.term.Term.{Term}
use Rattle.desk_expr.specs.Tree.{Tree}
use Rattle.desk_expr.specs.Meaning.{Holds, IsMinimal, IsSubset}
use Rattle.desk_expr.specs.Occurring.{term_order}
use Rattle.desk_alts.proofs.SameTerms.{contains_cases, contains_here}
use Rattle.desk_alts.specs.Sets.{IsTermSet, set_order}
use Rattle.desk_alts.specs.SetLaws.{set_total}
use Rattle.desk_alts.specs.Costs.{HasCosts, set_cost, IsUpTo, IsCheapest, HasNoCosts, IsLeastOf}
use Rattle.desk_alts.proofs.SetLemmas.{head_below, not_below_itself, both_below}

-- ---- the sum of a set's costs

pub costs_more : (cost : Term → Option ℕ) (ts : List Term) (i : ℕ) (t : Term) (c : ℕ)
    → i < length ts → t ≡ get_or ts i t → Some c ≡ cost t → HasCosts cost (take i ts)
    → HasCosts cost (take (i + 1) ts)
costs_more cost ts i t c within is costs so_far =
    All-more (λ u. IsSome (cost u)) ts i t within so_far
    (subst (λ (u : Term). IsSome (cost u)) is (subst (λ (o : Option ℕ). IsSome o) costs refl))

pub sum_more : (cost : Term → Option ℕ) (ts : List Term) (i : ℕ) (t : Term) (sum c : ℕ)
    → i < length ts → t ≡ get_or ts i t → Some c ≡ cost t → sum ≡ set_cost cost (take i ts)
    → sum + c ≡ set_cost cost (take (i + 1) ts)
sum_more cost ts i t sum c within is costs so_far =
    let own : Term → ℕ = λ u. unwrap_or (cost u) 0 in
    let next : take (i + 1) ts ≡ take i ts ++ t ∷ [] = take_more ts i t within
    ∙ ap (λ (x : Term). take i ts ++ x ∷ []) (sym is) in
    let pushed = sum_by_push own (take i ts) t in
    let here : own t ≡ c = ap (λ (o : Option ℕ). unwrap_or o 0) (sym costs) in
    let all = ap (sum_by own) next in
    omega (arith, so_far, pushed, here, all)

-- ---- the first of least cost

pub same_price : (cost : Term → Option ℕ) (s r : List Term) → s ≡ r
    → set_cost cost s ≡ set_cost cost r
same_price cost s r is = ap (set_cost cost) is

-- one more set, which has no cost
pub least_none : (cost : Term → Option ℕ) (sets : List (List Term)) (at : ℕ) (best : Option (ℕ × ℕ))
    → (HasCosts cost (get_or sets at []) → ⊥) → IsLeastOf cost sets at best
    → IsLeastOf cost sets (at + 1) best
least_none cost sets at None lacks so_far =
    λ j within costs. ⊎_elim (λ below. so_far j below costs)
    (λ above. let here : j ≡ at = omega arith in
    lacks (subst (λ k. HasCosts cost (get_or sets k [])) here costs)) (order j at)
least_none cost sets at (Some best) lacks so_far = (
  omega (arith, so_far.0),
  so_far.1,
  so_far.2,
  λ j within costs. ⊎_elim (λ below. so_far.3 j below costs)
      (λ above. let here : j ≡ at = omega arith in
      absurd (lacks (subst (λ k. HasCosts cost (get_or sets k [])) here costs))) (order j at),
)

-- the first one that has a cost
pub least_first : (cost : Term → Option ℕ) (sets : List (List Term)) (at p : ℕ)
    → HasCosts cost (get_or sets at []) → p ≡ set_cost cost (get_or sets at [])
    → IsLeastOf cost sets at None → IsLeastOf cost sets (at + 1) (Some (at, p))
least_first cost sets at p costs is none = (
  omega arith,
  costs,
  is,
  λ j within has. ⊎_elim
      (λ below. absurd (none j below has))
      (λ above. let here : at ≡ j = omega arith in
      inr (is ∙ ap (λ k. set_cost cost (get_or sets k [])) here, omega arith))
      (order j at),
)

-- one that costs less than the best one
pub least_new : (cost : Term → Option ℕ) (sets : List (List Term)) (at first old p : ℕ)
    → HasCosts cost (get_or sets at []) → p ≡ set_cost cost (get_or sets at []) → p < old
    → IsLeastOf cost sets at (Some (first, old)) → IsLeastOf cost sets (at + 1) (Some (at, p))
least_new cost sets at first old p costs is less so_far = (
  omega arith,
  costs,
  is,
  λ j within has. ⊎_elim
      (λ below. elim (so_far.3 j below has)
      [ inl a ↦ inl (omega (arith, a, less)) | inr b ↦ inl (omega (arith, b.0, less)) ])
      (λ above. let here : at ≡ j = omega arith in
      inr (is ∙ ap (λ k. set_cost cost (get_or sets k [])) here, omega arith))
      (order j at),
)

-- one that costs no less
pub least_kept : (cost : Term → Option ℕ) (sets : List (List Term)) (at first old p : ℕ)
    → p ≡ set_cost cost (get_or sets at []) → old ≤ p → IsLeastOf cost sets at (Some (first, old))
    → IsLeastOf cost sets (at + 1) (Some (first, old))
least_kept cost sets at first old p is more so_far = (
  omega (arith, so_far.0),
  so_far.1,
  so_far.2,
  λ j within has. ⊎_elim
      (λ below. so_far.3 j below has)
      (λ above.
      let here : at ≡ j = omega arith in
      let same : p ≡ set_cost cost (get_or sets j []) = is
      ∙ ap (λ k. set_cost cost (get_or sets k [])) here in
      elim (cases_eq old p) [
        | inl e ↦ inr (e ∙ same, omega (arith, so_far.0, above))
        | inr ne ↦ inl (omega (arith, more, ne, same))
      ])
      (order j at),
)

-- ---- a subset costs no more, and comes no later

-- a subset lacks the head of the larger set, or has it as its own head
pub head_cases : (x y : Term) (xs ys : List Term) → IsTermSet (x ∷ xs) → IsTermSet (y ∷ ys)
    → IsSubset (x ∷ xs) (y ∷ ys) → ((x ≡ y) × IsSubset xs ys) ⊎ IsSubset (x ∷ xs) ys
head_cases x y xs ys up up' sub =
    elim (contains_cases y ys x (sub x (contains_here x xs x refl))) [
      | inl is ↦ inl (
        sym is,
        λ t at. elim (contains_cases y ys t (sub t (is_later x xs t at))) [
          | inl same ↦ absurd (not_below_itself t
              (ap (λ z. term_order z t) (sym same ∙ is) ∙ head_below x t xs up at))
          | inr later ↦ later
        ],
      )
      | inr later ↦ inr
          (λ t at. elim (contains_cases y ys t (sub t at)) [
            | inr rest ↦ rest
            | inl same ↦ absurd (elim (contains_cases x xs t at) [
              | inl own ↦ not_below_itself t
                  (ap (λ z. term_order z t) (sym same)
                  ∙ (ap (term_order y) (sym own) ∙ head_below y x ys up' later))
              | inr inside ↦ both_below x y (ap (term_order x) same ∙ head_below x t xs up inside)
                  (head_below y x ys up' later)
            ])
          ])
    ]

pub subset_costs : (own : Term → ℕ) (few many : List Term) → IsTermSet few → IsTermSet many
    → IsSubset few many → sum_by own few ≤ sum_by own many
subset_costs own [] many up up' sub = omega arith
subset_costs own (x ∷ xs) [] up up' sub = absurd (let at = sub x (contains_here x xs x refl) in
    omega (arith, at.1))
subset_costs own (x ∷ xs) (y ∷ ys) up up' sub =
    let tail = sorted_tail term_order y ys up' in
    let left = sum_by-cons own x xs in
    let right = sum_by-cons own y ys in
    elim (head_cases x y xs ys up up' sub) [
      | inl same ↦
          let rest = subset_costs own xs ys (sorted_tail term_order x xs up) tail same.1 in
          let head = ap own same.0 in
          omega (arith, rest, head, left, right)
      | inr inside ↦
          let rest = subset_costs own (x ∷ xs) ys up tail inside in
          omega (arith, rest, right)
    ]

pub subset_size : (few many : List Term) → IsTermSet few → IsTermSet many → IsSubset few many
    → (few ≡ many) ⊎ (length few < length many)
subset_size [] [] up up' sub = inl refl
subset_size [] (y ∷ ys) up up' sub = inr (omega arith)
subset_size (x ∷ xs) [] up up' sub = absurd (let at = sub x (contains_here x xs x refl) in
    omega (arith, at.1))
subset_size (x ∷ xs) (y ∷ ys) up up' sub =
    let tail = sorted_tail term_order y ys up' in
    elim (head_cases x y xs ys up up' sub) [
      | inl same ↦ elim (subset_size xs ys (sorted_tail term_order x xs up) tail same.1) [
        | inl is ↦ inl (ap₂ (λ (z : Term) (zs : List Term). z ∷ zs) same.0 is)
        | inr less ↦ inr (omega (arith, less))
      ]
      | inr inside ↦ elim (subset_size (x ∷ xs) ys up tail inside) [
        | inl is ↦ inr (let long = ap length is in omega (arith, long))
        | inr less ↦ inr (omega (arith, less))
      ]
    ]

pub smaller_first : (few many : List Term) → length few < length many → set_order few many ≡ Less
smaller_first few many less =
    let smaller : nat_cmp (length few) (length many) ≡ Less = grind (arith, nat_tests) in
    ap (λ (o : Ordering). ordering_then o (slice_cmp term_order few many)) smaller

pub subset_first : (few many : List Term) → IsTermSet few → IsTermSet many → IsSubset few many
    → IsUpTo few many
subset_first few many up up' sub = elim (subset_size few many up up' sub)
    [ inl is ↦ inl is | inr less ↦ inr (smaller_first few many less) ]

pub up_to : (a b c : List Term) → IsUpTo a b → IsUpTo b c → IsUpTo a c
up_to a b c p q =
    elim p [
      | inl is ↦ subst (λ (l : List Term). IsUpTo l c) (sym is) q
      | inr less ↦ elim q [
        | inl is ↦ inr (ap (set_order a) (sym is) ∙ less)
        | inr more_less ↦ inr (set_total.trans a b c less more_less)
      ]
    ]

earlier : (sets : List (List Term)) (i j : ℕ) → IsStrictlySortedBy set_order sets → i ≤ j
    → j < length sets → IsUpTo (get_or sets i []) (get_or sets j [])
earlier sets i j up le within =
    elim (cases_eq i j) [
      | inl is ↦ inl (ap (λ k. get_or sets k []) is)
      | inr ne ↦ inr (Less-from_sorted set_order sets i j [] up (omega (arith, le, ne)) within)
    ]

-- ---- the cheapest set is a listed one

pub subset_has_costs : (cost : Term → Option ℕ) (few many : List Term) → IsSubset few many
    → HasCosts cost many → HasCosts cost few
subset_has_costs cost few many sub costs i d within = All-contains (λ t. IsSome (cost t)) many
    (get_or few i d) costs (sub (get_or few i d) (Contains-get_or few i d within))

module _ (cost : Term → Option ℕ) (e : Tree) (sets : List (List Term))
    (minimal : All (λ s. IsTermSet s × IsMinimal s e) sets)
    (contained : (s : List Term) → Holds (Contains s) e → Any (λ m. IsSubset m s) sets) where
  listed_subset : (s : List Term) → Holds (Contains s) e
      → (j : ℕ) × (j < length sets) × IsSubset (get_or sets j []) s
  listed_subset s holds =
      let a = contained s holds in (
        a.0,
        a.2,
        subst (λ (m : List Term). IsSubset m s) (sym (get_or_default sets a.0 [] a.1 a.2 ∙ a.3))
            a.4,
      )

  pub none_cheapest : (n : ℕ) → length sets ≤ n → IsLeastOf cost sets n None → HasNoCosts cost e
  none_cheapest n whole none s holds costs =
      let a = listed_subset s holds in
      none a.0 (omega (arith, a.1, whole)) (subset_has_costs cost (get_or sets a.0 []) s a.2 costs)

  pub is_cheapest : IsStrictlySortedBy set_order sets → (n i price : ℕ) (set : List Term)
      → n ≡ length sets → set ≡ get_or sets i set → IsLeastOf cost sets n (Some (i, price))
      → IsCheapest cost e price set
  is_cheapest up n i price set whole is best =
      let within : i < length sets = omega (arith, best.0, whole) in
      let same : get_or sets i [] ≡ set = get_or_default sets i [] set within ∙ sym is in
      let own = All-get_or (λ s. IsTermSet s × IsMinimal s e) sets i [] within minimal in
      subst (λ (l : List Term). IsCheapest cost e price l) same
      record {
        ordered = own.0;
        holds = own.1.0;
        costs = best.1;
        is_price = best.2;
        least = λ s up' holds costs.
            let a = listed_subset s holds in
            let few = get_or sets a.0 [] in
            let few_up = (All-get_or (λ s. IsTermSet s × IsMinimal s e) sets a.0 [] a.1
            minimal).0 in
            let less = subset_costs (λ t. unwrap_or (cost t) 0) few s few_up up' a.2 in
            elim (best.3 a.0 (omega (arith, a.1, whole)) (subset_has_costs cost few s a.2 costs)) [
              | inl c ↦ inl (omega (arith, c, less))
              | inr c ↦ elim (cases_eq (set_cost cost few) (set_cost cost s)) [
                | inl e ↦ inr (
                  c.0 ∙ e,
                  up_to (get_or sets i []) few s (earlier sets i a.0 up c.1 a.1)
                      (subset_first few s few_up up' a.2),
                )
                | inr ne ↦ inl (omega (arith, c.0, less, ne))
              ]
            ];
      }
