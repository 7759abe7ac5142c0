-- What a binary search in a strictly sorted list of terms finds.
use Rattle.std.proofs.Common.{◌≡◌, ◌∙◌, ⊎_elim, ℕ, ◌+◌, List, length, get_or, sym, ap, subst}
use Rattle.std.proofs.Common.{refl, arith, Option, Some, Result, Ok, Err}
use Rattle.std.specs.Prelude.{slice_get, Contains, IfSome, IfNone}
use Rattle.std.specs.Result.{result_ok}
use Rattle.std.specs.Ordering.{is_lt, is_eq, ordering_reverse}
use Rattle.std.specs.declared.cmp.Ordering.{Ordering}
use Rattle.std.specs.declared.cmp.Ordering.TheVariants.{Less, Equal, Greater}
use Rattle.std.specs.List.Sorted.{IsStrictlySortedBy, IsSorted, IsPartitionPoint, IsBinarySearchResult, IsSearchInRange}
use Rattle.std.proofs.lemmas.List.Sorted.{searchable_from_sorted}
use Rattle.std.proofs.lemmas.Map.Keys.{Less-from_sorted}
use Rattle.std.proofs.lemmas.Option.{slice_get_read}
use Rattle.std.proofs.str.Laws.{order}
use Rattle.desk_expr.specs.contracts.term.TermOrd.TheImpl.Laws.{total-law, matches_eq-law}
use Rattle.desk_expr.specs.declared.term.Term.{Term}
use Rattle.desk_expr.specs.Occurring.{term_order}
use Rattle.desk_expr.proofs.TermLemmas.{equal_terms}

-- terms that tie are equal
pub same_rank : (x y : Term) → term_order x y ≡ Equal → x ≡ y
same_rank x y tie = equal_terms x y (matches_eq-law x y ∙ ap is_eq tie)

pub own_rank : (r : Ordering) → r ≡ ordering_reverse r → r ≡ Equal
own_rank Less e = absurd (cc)
own_rank Equal e = refl
own_rank Greater e = absurd (cc)

pub ranks_with_itself : (t : Term) → term_order t t ≡ Equal
ranks_with_itself t = own_rank (term_order t t) (total-law.antisymm t t)

sorted : (xs : List Term) → IsStrictlySortedBy term_order xs → IsSorted term_order xs
sorted xs up k d from to =
    let less : term_order (get_or xs k d) (get_or xs (k + 1) d) ≡ Less =
    Less-from_sorted term_order xs k (k + 1) d up (omega arith) to in
    ap is_lt (total-law.antisymm (get_or xs (k + 1) d) (get_or xs k d) ∙ ap ordering_reverse less)

-- a term that is between the lower and the higher terms isn't listed
none_between : (xs : List Term) (t : Term) (i : ℕ)
    → IsPartitionPoint (λ y. term_order y t ≡ Less) (λ y. term_order y t ≡ Greater) xs i
    → Contains xs t → ⊥
none_between xs t i parts at =
    let tie : term_order (get_or xs at.0 t) t ≡ Equal = ap (λ y. term_order y t) at.2
    ∙ ranks_with_itself t in
    ⊎_elim
    (λ below. let less : term_order (get_or xs at.0 t) t ≡ Less =
    parts.0 at.0 t (omega arith) below in cc)
    (λ above. let greater : term_order (get_or xs at.0 t) t ≡ Greater = parts.1 at.0 t above at.1 in
    cc)
    (order at.0 i)

pub place_found : (xs : List Term) (t : Term) (r : Result ℕ ℕ) (o : Option ℕ) → o ≡ result_ok r
    → IsSearchInRange r (length xs) → IsBinarySearchResult (λ y. term_order y t) xs r
    → IfSome o (λ k. slice_get xs k ≡ Some t)
place_found xs t (Ok k) o is within found =
    subst (λ (p : Option ℕ). IfSome p (λ k. slice_get xs k ≡ Some t)) (sym is)
    (slice_get_read xs (length xs) k t refl within (sym (same_rank (get_or xs k t) t (found t))))
place_found xs t (Err k) o is within found = subst (λ (p : Option ℕ). IfSome p
    (λ k. slice_get xs k ≡ Some t)) (sym is) tt

pub place_none : (xs : List Term) (t : Term) (r : Result ℕ ℕ) (o : Option ℕ)
    → IsStrictlySortedBy term_order xs → o ≡ result_ok r
    → IsBinarySearchResult (λ y. term_order y t) xs r → IfNone o (Contains xs t → ⊥)
place_none xs t (Ok k) o up is found = subst (λ (p : Option ℕ). IfNone p (Contains xs t → ⊥))
    (sym is) tt
place_none xs t (Err k) o up is found =
    subst (λ (p : Option ℕ). IfNone p (Contains xs t → ⊥)) (sym is)
    (λ at. none_between xs t k (found
    (searchable_from_sorted total-law (λ y. y) xs t (sorted xs up))) at)
