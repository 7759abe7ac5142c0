use Rattle.std.proofs.Common.{◌≡◌, ◌∙◌, ◌++◌, sym, subst, ap, arith}
use Rattle.std.specs.Prelude.{All, Contains, IsTrue}
use Rattle.std.specs.List.Sorted.{IsStrictlySortedBy}
use Rattle.std.proofs.lemmas.List.Filters.{dedup_is, All-dedup}
use Rattle.std.proofs.lemmas.List.Kept.{Contains-dedup, Contains-from_dedup, IsStrictlySortedBy-dedup}
use Rattle.std.proofs.lemmas.List.Sorted.{All-permutation, Contains-permutation, IsPermutation-sym}
use Rattle.desk_expr.specs.contracts.term.TermOrd.TheImpl.Laws.{total-law, matches_eq-law}
use Rattle.desk_expr.specs.contracts.term.TermEq.TheImpl.Laws.{laws-law}
use Rattle.desk_expr.specs.Occurring.{leaves, term_order}
use Rattle.desk_expr.specs.Words.{is_term}
use Rattle.desk_expr.proofs.TermLemmas.{equal_terms}
use Rattle.desk_expr.proofs.listing.terms.Goals as goal

pub returns-clause-terms : goal.returns-clause-terms
returns-clause-terms c =
    let is = dedup_is _ _ _ c.dedup.ensures.filtered in
    let moved = c.in_ok-sort.ensures.permutation in
    let ordered = IsStrictlySortedBy-dedup total-law matches_eq-law c.sort.new.self.items
    c.in_ok-sort.ensures.sorted in
    let got : c.collect_terms.new.terms.items ≡ leaves c.args.expr.now =
    c.in_ok-collect_terms.ensures.added
    ∙ ap (λ l. l ++ leaves c.args.expr.now) c.new-terms.ensures.items in
    record {
      members = λ t. (
        (λ h. subst (λ l. Contains l t) got
            (Contains-permutation _ _ t (IsPermutation-sym _ _ moved)
            (Contains-from_dedup _ _ t (subst (λ l. Contains l t) is h)))),
        (λ h. subst (λ l. Contains l t) (sym is)
            (Contains-dedup laws-law equal_terms c.sort.new.self.items t
            (Contains-permutation _ _ t moved (subst (λ l. Contains l t) (sym got) h)))),
      );
      ordered = subst (IsStrictlySortedBy term_order) (sym is) ordered;
    }

pub returns-clause-well_formed : goal.returns-clause-well_formed
returns-clause-well_formed c =
    let is = dedup_is _ _ _ c.dedup.ensures.filtered in
    let none = subst (All (λ t. IsTrue (is_term t))) (sym c.new-terms.ensures.items)
    (λ k d lt. absurd (omega arith)) in
    rw is (All-dedup _ (λ t. IsTrue (is_term t)) _
    (All-permutation (λ t. IsTrue (is_term t)) _ _ c.in_ok-sort.ensures.permutation
    (c.in_ok-collect_terms.ensures.well_formed none)))
