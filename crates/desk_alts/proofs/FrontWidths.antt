-- Whether a tree has more terms, or more minimal sets, than the limits allow.
use Rattle.std.proofs.Common.{◌≡◌, ◌∙◌, ◌⊎◌, inl, inr, ℕ, ◌+◌, ◌<◌, ◌≤◌, List, [], length, get_or, sym, ap, arith}
use Rattle.std.specs.List.{AllPairs}
use Rattle.std.proofs.lemmas.List.{get_or_default}
use Rattle.std.proofs.lemmas.List.Elements.{All-get_or}
use Rattle.std.proofs.lemmas.Map.Keys.{Less-from_sorted}
use Rattle.std.proofs.str.Laws.{order}
use Rattle.desk_expr.specs.declared.term.Term.{Term}
use Rattle.desk_expr.specs.Tree.{Tree, Trees, one, all, any, no_more, more}
use Rattle.desk_expr.specs.Meaning.{IsMinimal}
use Rattle.desk_alts.proofs.Decide.{Decided, decided_le, first_below}
use Rattle.desk_alts.specs.Sets.{IsTermSet, set_order, AreAlternatives, HasMoreSets, HasMoreTerms}
use Rattle.desk_alts.specs.Sets.{parts_count, first_parts, joined, HasWideFrontOf, HasWideFront}
use Rattle.desk_alts.specs.Sets.{HasWidePart}
use Rattle.desk_alts.specs.SetLaws.{set_total}
use Rattle.desk_alts.proofs.Antichains.{at_most}
use Rattle.desk_base.proofs.SortedOnce.{not_below_own}
use Rattle.desk_alts.proofs.Widths.{one_place}
use Rattle.desk_alts.proofs.ListingExists.{terms_exist, one_list_of_terms, alternatives_exist}

-- ---- terms

pub more_terms_or_not : (n : ℕ) (e : Tree) → Decided (HasMoreTerms n e)
more_terms_or_not n e =
    let own = terms_exist e in
    elim (order n (length own.0)) [
      | inl many ↦ inl (own.0, own.1, many)
      | inr few ↦ inr (λ h. let same : length h.0 ≡ length own.0 =
          ap length (one_list_of_terms e h.0 own.0 h.1 own.1) in omega (arith, few, same, h.2))
    ]

-- ---- minimal sets

apart_in_order : (sets : List (List Term)) (e : Tree) → AreAlternatives e sets
    → AllPairs (λ s r. s ≡ r → ⊥) sets
apart_in_order sets e are i j d below within is =
    not_below_own set_order set_total (get_or sets j d)
    (ap (λ s. set_order s (get_or sets j d)) (sym is)
    ∙ Less-from_sorted set_order sets i j d are.ordered below within)

-- no list of different minimal sets is longer than that of all
no_longer : (n : ℕ) (e : Tree) (sets : List (List Term)) → AreAlternatives e sets → HasMoreSets n e
    → n < length sets
no_longer n e sets are wide =
    let own = wide.0 in
    let Same : ℕ → ℕ → Type 0 = λ j i. (i < length sets) × (get_or own j [] ≡ get_or sets i []) in
    let le : length own ≤ length sets = at_most (length own) (length sets) Same
    (λ j within.
    let fact = All-get_or (λ s. IsTermSet s × IsMinimal s e) own j [] within wide.1 in
    let at = are.every (get_or own j []) fact.0 fact.1 in
    (at.0, (at.1, sym (get_or_default sets at.0 [] (get_or own j []) at.1 ∙ at.2))))
    (λ j i same. same.0)
    (λ j k i in_j in_k a b. one_place own wide.2 j k in_j in_k (a.1 ∙ sym b.1)) in
    omega (arith, le, wide.3)

pub more_sets_or_not : (n : ℕ) (e : Tree) → Decided (HasMoreSets n e)
more_sets_or_not n e =
    let own = alternatives_exist e in
    elim (order n (length own.0)) [
      | inl many ↦ inl (own.0, own.1.only, apart_in_order own.0 e own.1, many)
      | inr few ↦ inr (λ wide. let many = no_longer n e own.0 own.1 wide in
          omega (arith, few, many))
    ]

-- ---- fronts

front_or_not : (node : Trees → Tree) (ts : Trees) (k : ℕ)
    → Decided ((1 ≤ k) × (k ≤ parts_count ts) × HasMoreSets 64 (joined node (first_parts k ts)))
front_or_not node ts k =
    elim (decided_le 1 k) [
      | inr low ↦ inr (λ h. low h.0)
      | inl from ↦ elim (decided_le k (parts_count ts)) [
        | inr high ↦ inr (λ h. high h.1)
        | inl to ↦ elim (more_sets_or_not 64 (joined node (first_parts k ts)))
            [ inl wide ↦ inl (from, to, wide) | inr narrow ↦ inr (λ h. narrow h.2) ]
      ]
    ]

wide_front_or_not : (node : Trees → Tree) (ts : Trees) → Decided (HasWideFrontOf node ts)
wide_front_or_not node ts =
    elim (first_below (λ k. (1 ≤ k) × (k ≤ parts_count ts)
    × HasMoreSets 64 (joined node (first_parts k ts))) (front_or_not node ts) (parts_count ts + 1)) [
      | inl found ↦ inl (found.0, found.1.0.0, found.1.0.1, found.1.0.2)
      | inr none ↦ inr (λ h. none h.0 (omega (arith, h.2)) (h.1, h.2, h.3))
    ]

decided_either : (P Q : Type 0) → Decided P → Decided Q → Decided (P ⊎ Q)
decided_either P Q (inl p) q = inl (inl p)
decided_either P Q (inr n) (inl q) = inl (inr q)
decided_either P Q (inr n) (inr m) = inr (λ h. elim h [ inl p ↦ n p | inr q ↦ m q ])

mutual
  pub wide_or_not : (e : Tree) → Decided (HasWideFront e)
  wide_or_not (one t) = inr (λ h. h)
  wide_or_not (all ts) = decided_either (HasWidePart ts) (HasWideFrontOf all ts)
      (wide_part_or_not ts) (wide_front_or_not all ts)
  wide_or_not (any ts) = decided_either (HasWidePart ts) (HasWideFrontOf any ts)
      (wide_part_or_not ts) (wide_front_or_not any ts)

  wide_part_or_not : (ts : Trees) → Decided (HasWidePart ts)
  wide_part_or_not no_more = inr (λ h. h)
  wide_part_or_not (more t ts) = decided_either (HasWideFront t) (HasWidePart ts) (wide_or_not t)
      (wide_part_or_not ts)
