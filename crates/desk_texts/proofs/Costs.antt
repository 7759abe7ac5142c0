-- What the terms of an expression cost by their places is what they cost as printed texts, and the
-- cheapest set is the same.
use Rattle.std.proofs.Common.{◌≡◌, ◌∙◌, ◌⊎◌, inl, inr, ◌↔◌, ℕ, zero, suc, ◌+◌, ◌<◌, ◌≤◌, Bool, true}
use Rattle.std.proofs.Common.{false, List, [], ◌∷◌, length, get_or, map, sym, ap, subst, refl}
use Rattle.std.proofs.Common.{arith, Option, Some, None}
use Rattle.std.specs.Prelude.{Contains, IsSome, IfSome, IfNone, All, sum_by, slice_get, nat_lt, if◌then◌else◌, Ok}
use Rattle.std.specs.Option.{unwrap_or, option_and_then, option_map}
use Rattle.std.specs.Ordering.{is_eq}
use Rattle.std.specs.declared.cmp.Ordering.{Ordering}
use Rattle.std.specs.declared.cmp.Ordering.TheVariants.{Less, Equal, Greater}
use Rattle.std.proofs.lemmas.Bool.{cases_eq}
use Rattle.std.proofs.lemmas.Bool.Decides.{nat_tests}
use Rattle.std.proofs.lemmas.List.Elements.{All-contains, Contains-get_or}
use Rattle.std.proofs.lemmas.List.Sums.{sum_by-cons}
use Rattle.std.proofs.lemmas.Map.Keys.{sorted_tail}
use Rattle.std.proofs.lemmas.Option.{slice_get_within, get_or_from_slice_get, slice_get_read, slice_get_past}
use Rattle.std.proofs.lemmas.Simd.{map-map}
use Rattle.desk_expr.specs.declared.term.Term.{Term}
use Rattle.desk_expr.specs.Tree.{Tree}
use Rattle.desk_expr.specs.Meaning.{Holds, IsSubset}
use Rattle.desk_expr.specs.Occurring.{term_order, AreTermsOf}
use Rattle.desk_expr.specs.Printing.{printed_term}
use Rattle.desk_alts.proofs.SameTerms.{contains_cases, contains_here, same_term}
use Rattle.desk_alts.proofs.TableLemmas.{same_rank, ranks_with_itself}
use Rattle.desk_alts.specs.Sets.{IsTermSet}
use Rattle.desk_alts.specs.Costs.{HasCosts, set_cost, IsCheapest, HasNoCosts}
use Rattle.desk_alts.proofs.SetLemmas.{head_below, sorted_consed, sorted_none}
use Rattle.desk_alts.proofs.CostLemmas.{subset_costs, subset_first, up_to}
use Rattle.desk_alts.proofs.Choosing.{holds_on_leaves, is_listed}
use Rattle.desk_model.specs.Listings.{IsCost, at_most}
use Rattle.desk_alts.specs.Faults.{IsListable}
use Rattle.desk_base.specs.declared.profile.Profile.{Profile}
use Rattle.desk_base.proofs.SortedOnce.{is_later}
use Rattle.desk_texts.specs.Expressions.{IsExpression}
use Rattle.desk_texts.specs.Listings.{cost_at, cost_of, cost_within, AreTermTexts, IsPriced}

-- ---- the part of a set that is in a list

record Part (ts s : List Term) : Type 0 where
  few : List Term
  both : (t : Term) → Contains few t ↔ (Contains s t × Contains ts t)
  ordered : IsTermSet s → IsTermSet few

nothing_in : (t : Term) → Contains [] t → ⊥
nothing_in t at = omega (arith, at.1)

part_of : (ts s : List Term) → Part ts s
part_of ts [] = record {
  few = [];
  both = λ t. ((λ at. absurd (nothing_in t at)), λ h. h.0);
  ordered = λ up. up;
}
part_of ts (x ∷ xs) =
    let rest = part_of ts xs in
    elim (is_listed ts x) [
      | inl here ↦ record {
        few = x ∷ rest.few;
        both = λ t. (
          (λ at. elim (contains_cases x rest.few t at) [
            | inl is ↦ (contains_here x xs t is, subst (λ (u : Term). Contains ts u) is here)
            | inr inside ↦ let both = (rest.both t).0 inside in
                (is_later x xs t both.0, both.1)
          ]),
          (λ h. elim (contains_cases x xs t h.0) [
            | inl is ↦ contains_here x rest.few t is
            | inr inside ↦ is_later x rest.few t ((rest.both t).1 (inside, h.1))
          ]),
        );
        ordered = λ up. sorted_consed x rest.few (rest.ordered (sorted_tail term_order x xs up))
            (λ y at. head_below x y xs up ((rest.both y).0 at).0);
      }
      | inr none ↦ record {
        few = rest.few;
        both = λ t. (
          (λ at. let both = (rest.both t).0 at in (is_later x xs t both.0, both.1)),
          (λ h. elim (contains_cases x xs t h.0) [
            | inl is ↦ absurd (none (subst (λ (u : Term). Contains ts u) (sym is) h.1))
            | inr inside ↦ (rest.both t).1 (inside, h.1)
          ]),
        );
        ordered = λ up. rest.ordered (sorted_tail term_order x xs up);
      }
    ]

-- ---- two costs that agree on the terms of a tree

same_sum : (f g : Term → ℕ) (s : List Term) → ((t : Term) → Contains s t → f t ≡ g t)
    → sum_by f s ≡ sum_by g s
same_sum f g [] same = refl
same_sum f g (x ∷ xs) same =
    let rest = same_sum f g xs (λ t at. same t (is_later x xs t at)) in
    let here = same x (contains_here x xs x refl) in
    let left = sum_by-cons f x xs in
    let right = sum_by-cons g x xs in
    omega (arith, rest, here, left, right)

not_some : (o : Option ℕ) → o ≡ None → IsSome o → ⊥
not_some None none some = cc
not_some (Some n) none some = cc

module _ (cost own : Term → Option ℕ) (e : Tree) (ts : List Term) (are : AreTermsOf e ts)
    (same : (t : Term) → Contains ts t → own t ≡ cost t)
    (none : (t : Term) → (Contains ts t → ⊥) → own t ≡ None) where
  within_terms : (t : Term) → IsSome (own t) → Contains ts t
  within_terms t some = elim (is_listed ts t) [
    | inl here ↦ here
    | inr not_here ↦ absurd (not_some (own t) (none t not_here) some)
  ]

  costs_on : (s : List Term) → HasCosts own s → (t : Term) → Contains s t → own t ≡ cost t
  costs_on s costs t at = same t (within_terms t (All-contains (λ u. IsSome (own u)) s t costs at))

  has_costs : (s : List Term) → HasCosts own s → HasCosts cost s
  has_costs s costs i d within = subst (λ (o : Option ℕ). IsSome o)
      (costs_on s costs (get_or s i d) (Contains-get_or s i d within)) (costs i d within)

  same_cost : (s : List Term) → HasCosts own s → set_cost own s ≡ set_cost cost s
  same_cost s costs = same_sum (λ t. unwrap_or (own t) 0) (λ t. unwrap_or (cost t) 0) s
      (λ t at. ap (λ (o : Option ℕ). unwrap_or o 0) (costs_on s costs t at))

  module _ (s : List Term) (holds : Holds (Contains s) e) (costs : HasCosts cost s) where
    part_holds : Holds (Contains (part_of ts s).few) e
    part_holds = holds_on_leaves (Contains s) (Contains (part_of ts s).few) e
        (λ t leaf at. ((part_of ts s).both t).1 (at, (are.members t).1 leaf)) holds

    part_costs : HasCosts own (part_of ts s).few
    part_costs i d within =
        let t : Term = get_or (part_of ts s).few i d in
        let both = ((part_of ts s).both t).0 (Contains-get_or (part_of ts s).few i d within) in
        subst (λ (o : Option ℕ). IsSome o) (sym (same t both.1))
        (All-contains (λ u. IsSome (cost u)) s t costs both.0)

    part_within : IsSubset (part_of ts s).few s
    part_within t at = (((part_of ts s).both t).0 at).0

  pub none_by_texts : HasNoCosts own e → HasNoCosts cost e
  none_by_texts never s holds costs = never (part_of ts s).few (part_holds s holds costs)
      (part_costs s holds costs)

  pub cheapest_by_texts : (price : ℕ) (set : List Term) → IsCheapest own e price set
      → IsCheapest cost e price set
  cheapest_by_texts price set is = record {
    ordered = is.ordered;
    holds = is.holds;
    costs = has_costs set is.costs;
    is_price = is.is_price ∙ same_cost set is.costs;
    least = λ s up holds costs.
        let few : List Term = (part_of ts s).few in
        let few_up = (part_of ts s).ordered up in
        let few_costs = part_costs s holds costs in
        let few_in = part_within s holds costs in
        let priced = same_cost few few_costs in
        let less = subset_costs (λ t. unwrap_or (cost t) 0) few s few_up up few_in in
        elim (is.least few few_up (part_holds s holds costs) few_costs) [
          | inl c ↦ inl (omega (arith, c, less, priced))
          | inr c ↦ elim (cases_eq (set_cost cost few) (set_cost cost s)) [
            | inl e ↦ inr (
              c.0 ∙ (priced ∙ e),
              up_to set few s c.1 (subset_first few s few_up up few_in),
            )
            | inr ne ↦ inl (omega (arith, c.0, priced, less, ne))
          ]
        ];
  }

-- ---- the costs by places

-- what the list of costs has at a place
abbrev pub entry : List (Option ℕ) → ℕ → Option ℕ
entry costs k = option_and_then (λ c. c) (slice_get costs k)

before_others : (x t : Term) (xs : List Term) → IsTermSet (x ∷ xs) → Contains xs t
    → is_eq (term_order x t) ≡ false
before_others x t xs up at = ap is_eq (head_below x t xs up at)

itself : (x t : Term) → x ≡ t → is_eq (term_order x t) ≡ true
itself x t is = ap (λ (u : Term). is_eq (term_order x u)) (sym is) ∙ ap is_eq (ranks_with_itself x)

differs : (x t : Term) → (x ≡ t → ⊥) → is_eq (term_order x t) ≡ false
differs x t other = elim (term_order x t) as
    (λ (o : Ordering). (o ≡ Equal → x ≡ t) → is_eq o ≡ false) [
      | Less ↦ λ same. refl
      | Equal ↦ λ same. absurd (other (same refl))
      | Greater ↦ λ same. refl
    ] (same_rank x t)

entry_none : (k : ℕ) → entry [] k ≡ None
entry_none zero = refl
entry_none (suc k) = refl

pub cost_at_place : (ts : List Term) (costs : List (Option ℕ)) (t : Term) (k : ℕ) → IsTermSet ts
    → slice_get ts k ≡ Some t → cost_at ts costs t ≡ entry costs k
cost_at_place [] costs t k up is = absurd (cc)
cost_at_place (x ∷ xs) [] t k up is = sym (entry_none k)
cost_at_place (x ∷ xs) (c ∷ cs) t zero up is = rw (itself x t
    (let same : Some x ≡ Some t = is in cc)) refl
cost_at_place (x ∷ xs) (c ∷ cs) t (suc k) up is =
    let there : Contains xs t = (
      k,
      slice_get_within xs k t is,
      get_or_from_slice_get xs k t t is,
    ) in
    rw (before_others x t xs up there) (cost_at_place xs cs t k (sorted_tail term_order x xs up) is)

pub no_cost : (ts : List Term) (costs : List (Option ℕ)) (t : Term) → (Contains ts t → ⊥)
    → cost_at ts costs t ≡ None
no_cost [] costs t none = refl
no_cost (x ∷ xs) [] t none = refl
no_cost (x ∷ xs) (c ∷ cs) t none =
    rw (differs x t (λ is. none (contains_here x xs t is)))
    (no_cost xs cs t (λ at. none (is_later x xs t at)))

own_cost : (f : Term → Option ℕ) (ts : List Term) (t : Term) → Contains ts t
    → cost_at ts (map f ts) t ≡ f t
own_cost f [] t at = absurd (nothing_in t at)
own_cost f (x ∷ xs) t at = elim (same_term x t) [
  | inl is ↦ rw (itself x t is) (ap f is)
  | inr other ↦ rw (differs x t other)
      (own_cost f xs t (elim (contains_cases x xs t at)
      [ inl is ↦ absurd (other is) | inr inside ↦ inside ]))
]

within_bound : (o : Option ℕ) → IfSome o (λ n. n ≤ 1000000) → option_map (at_most 1000000) o ≡ o
within_bound None h = refl
within_bound (Some n) h = ap Some (small n h)
  where
    small : (n : ℕ) → n ≤ 1000000 → at_most 1000000 n ≡ n
    small n le = let less : nat_lt 1000000 n ≡ false = grind (arith, nat_tests) in rw less refl

module _ (cost : List ℕ → Option ℕ) (bounded : IsCost cost) (e : Tree) (ts : List Term)
    (are : AreTermsOf e ts) (costs : List (Option ℕ))
    (given : costs ≡ map cost (map printed_term ts)) where
  by_places : costs ≡ map (cost_of cost) ts
  by_places = given ∙ map-map cost printed_term ts

  agrees : (t : Term) → Contains ts t → cost_within ts costs t ≡ cost_of cost t
  agrees t at =
      ap (λ (l : List (Option ℕ)). option_map (at_most 1000000) (cost_at ts l t)) by_places
      ∙ (ap (option_map (at_most 1000000)) (own_cost (cost_of cost) ts t at)
      ∙ within_bound (cost_of cost t) (bounded (printed_term t)))

  foreign : (t : Term) → (Contains ts t → ⊥) → cost_within ts costs t ≡ None
  foreign t none = ap (option_map (at_most 1000000)) (no_cost ts costs t none)

  pub cheapest_by_costs : (price : ℕ) (set : List Term)
      → IsCheapest (cost_within ts costs) e price set → IsCheapest (cost_of cost) e price set
  cheapest_by_costs = cheapest_by_texts (cost_of cost) (cost_within ts costs) e ts are agrees
      foreign

  pub none_by_costs : HasNoCosts (cost_within ts costs) e → HasNoCosts (cost_of cost) e
  none_by_costs = none_by_texts (cost_of cost) (cost_within ts costs) e ts are agrees foreign

-- what is read of a list of costs at a place
pub entry_read : (costs : List (Option ℕ)) (k : ℕ) (x : Option ℕ) → true ≡ nat_lt k (length costs)
    → x ≡ get_or costs k x → entry costs k ≡ x
entry_read costs k x within is =
    let lt : k < length costs = grind (arith, nat_tests) in
    ap (option_and_then (λ c. c)) (slice_get_read costs (length costs) k x refl lt is)

pub entry_past : (costs : List (Option ℕ)) (k : ℕ) → false ≡ nat_lt k (length costs)
    → entry costs k ≡ None
entry_past costs k past =
    let le : length costs ≤ k = grind (arith, nat_tests) in
    ap (option_and_then (λ c. c)) (slice_get_past costs k le)

-- ---- what is said of an expression

pub at_some : {A : Type 0} (P : A → Type 0) (o : Option A) (x : A) → o ≡ Some x → IfSome o P → P x
at_some P None x is h = absurd (cc)
at_some P (Some y) x is h = let same : y ≡ x = cc in subst P same h

pub at_none : {A : Type 0} (Q : Type 0) (o : Option A) → o ≡ None → IfNone o Q → Q
at_none Q None is h = h
at_none Q (Some y) is h = absurd (cc)

module _ (cost : List ℕ → Option ℕ) (bounded : IsCost cost) (e : Tree) (ts : List Term)
    (are : AreTermsOf e ts) (listable : IsListable e)
    (costs : List (Option ℕ)) (given : (terms : List (List ℕ)) → AreTermTexts e terms
    → costs ≡ map cost terms) where
  at_terms : costs ≡ map cost (map printed_term ts)
  at_terms = given (map printed_term ts) (ts, are, refl)

  pub some_priced : (price : ℕ) (set : List Term) (terms : List (List ℕ))
      → IsCheapest (cost_within ts costs) e price set → terms ≡ map printed_term set
      → IsPriced cost e (Ok (Some (record { cost = price; terms = terms })))
  some_priced price set terms found printed = (
    listable,
    set,
    cheapest_by_costs cost bounded e ts are costs at_terms price set found,
    printed,
  )

  pub none_priced : HasNoCosts (cost_within ts costs) e → IsPriced cost e (Ok None)
  none_priced none = (listable, none_by_costs cost bounded e ts are costs at_terms none)
