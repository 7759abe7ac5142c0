-- Each tree has one list of its terms, and one of its minimal sets.
use Rattle.std.proofs.Common.{◌≡◌, ◌↔◌, inl, inr, List, [], length, get_or, subst, refl}
use Rattle.std.specs.Prelude.{Contains}
use Rattle.std.specs.Cmp.Lexicographic.{slice_cmp}
use Rattle.std.specs.FinMap.{IsAntisymmetric, slice_cmp-IsAntisymmetric}
use Rattle.std.specs.Ordering.{nat_cmp}
use Rattle.std.proofs.lemmas.List.Elements.{All-contains, All-from_get_or, Contains-get_or}
use Rattle.desk_expr.specs.contracts.term.TermOrd.TheImpl.Laws.{total-law}
use Rattle.desk_expr.specs.declared.term.Term.{Term}
use Rattle.desk_expr.specs.Tree.{Tree}
use Rattle.desk_expr.specs.Meaning.{Holds, IsMinimal}
use Rattle.desk_expr.specs.Occurring.{leaves, term_order, AreTermsOf}
use Rattle.desk_alts.proofs.Minimal.{not_minimal_if_can_go}
use Rattle.desk_alts.proofs.SameTerms.{without_is_list}
use Rattle.desk_alts.proofs.TableLemmas.{same_rank}
use Rattle.desk_alts.proofs.Decide.{Decided}
use Rattle.desk_alts.proofs.Verdicts.{verdict}
use Rattle.desk_alts.specs.Sets.{IsTermSet, set_order, AreAlternatives}
use Rattle.desk_alts.specs.SetLaws.{set_total}
use Rattle.desk_alts.proofs.Choosing.{holds_on_leaves, is_listed}
use Rattle.desk_base.proofs.SortedOnce.{same_sorted}
use Rattle.desk_base.proofs.Orders.{second_equal}
use Rattle.desk_alts.proofs.SetLemmas.{same_sets}
use Rattle.desk_alts.proofs.Ordered.{in_order, having}
use Rattle.desk_alts.proofs.Subsets.{subsets}

-- ---- terms

-- a list as a set of terms
pub as_set : (xs : List Term)
    → (s : List Term) × IsTermSet s × ((t : Term) → Contains s t ↔ Contains xs t)
as_set = in_order term_order total-law same_rank

pub terms_exist : (e : Tree) → (ts : List Term) × AreTermsOf e ts
terms_exist e = let own = as_set (leaves e) in (own.0, record { members = own.2; ordered = own.1 })

pub one_list_of_terms : (e : Tree) (a b : List Term) → AreTermsOf e a → AreTermsOf e b → a ≡ b
one_list_of_terms e a b x y = same_sets a b x.ordered y.ordered
    (λ t. (
      (λ at. (y.members t).1 ((x.members t).0 at)),
      (λ at. (x.members t).1 ((y.members t).0 at)),
    ))

-- ---- which terms a minimal set has

pub holds_or_not : (e : Tree) (s : List Term) → Decided (Holds (Contains s) e)
holds_or_not e s =
    elim (verdict e s) [
      | inl fails ↦ inr fails
      | inr holds ↦ elim holds [ inl spare ↦ inl spare.0 | inr least ↦ inl least.0 ]
    ]

minimal_or_not : (e : Tree) (s : List Term) → Decided (IsMinimal s e)
minimal_or_not e s =
    elim (verdict e s) [
      | inl fails ↦ inr (λ least. fails least.0)
      | inr holds ↦ elim holds [
        | inl spare ↦ inr (not_minimal_if_can_go s e spare.1 spare.2.0)
        | inr least ↦ inl least
      ]
    ]

-- a term that doesn't occur in the tree can go
minimal_has_own : (e : Tree) (s : List Term) → IsMinimal s e → (t : Term) → Contains s t
    → Contains (leaves e) t
minimal_has_own e s least t at =
    elim (is_listed (leaves e) t) [
      | inl own ↦ own
      | inr foreign ↦ absurd (let few = without_is_list s t in
          least.1 few.0 ((λ u h. ((few.1 u).0 h).0), t, at, (λ h. ((few.1 t).0 h).1 refl))
          (holds_on_leaves (Contains s) (Contains few.0) e
          (λ u leaf has. (few.1 u).1 (has, λ is. foreign (subst (Contains (leaves e)) is leaf)))
          least.0))
    ]

-- ---- listings

sets_tie : IsAntisymmetric set_order
sets_tie a b tie = slice_cmp-IsAntisymmetric {R = term_order} same_rank a b
    (second_equal (nat_cmp (length a) (length b)) (slice_cmp term_order a b) tie)

pub alternatives_exist : (e : Tree) → (sets : List (List Term)) × AreAlternatives e sets
alternatives_exist e =
    let terms = terms_exist e in
    let each = subsets terms.0 terms.1.ordered in
    let least = having (λ s. IsMinimal s e) (minimal_or_not e) each.0 in
    let sets = in_order set_order set_total sets_tie least.0 in (
      sets.0,
      record {
        only = All-from_get_or (λ s. IsTermSet s × IsMinimal s e) sets.0 []
            (λ k within.
            let s = get_or sets.0 k [] in
            let own = (least.1 s).0 ((sets.2 s).0 (Contains-get_or sets.0 k [] within)) in
            (((each.1 s).0 own.0).0, own.1));
        every = λ s up minimal. (sets.2 s).1
            ((least.1 s).1 (
              (each.1 s).1 (
                up,
                λ t at. (terms.1.members t).1 (minimal_has_own e s minimal t at),
              ),
              minimal,
            ));
        ordered = sets.1;
      },
    )

pub one_listing : (e : Tree) (a b : List (List Term)) → AreAlternatives e a → AreAlternatives e b
    → a ≡ b
one_listing e a b x y =
    same_sorted set_order set_total a b x.ordered y.ordered
    (λ s. (
      (λ at. let own = All-contains (λ r. IsTermSet r × IsMinimal r e) a s x.only at in
          y.every s own.0 own.1),
      (λ at. let own = All-contains (λ r. IsTermSet r × IsMinimal r e) b s y.only at in
          x.every s own.0 own.1),
    ))
