use Rattle.std.proofs.Common.{List, length, subst}
use Rattle.std.specs.List.Sorted.{IsBinarySearchResult, IsSearchInRange}
use Rattle.desk_expr.specs.declared.term.Term.{Term}
use Rattle.desk_expr.specs.Occurring.{term_order}
use Rattle.desk_alts.proofs.TableLemmas.{place_found, place_none}
use Rattle.desk_alts.proofs.table.TermTable.place.Goals as goal

pub returns-clause-found : goal.returns-clause-found
returns-clause-found c =
    let range = subst (λ (xs : List Term). IsSearchInRange c.binary_search.result (length xs))
    c.terms.ensures.terms c.binary_search.ensures.bound in
    let found = subst (λ (xs : List Term). IsBinarySearchResult (λ y. term_order y c.args.term.now)
    xs c.binary_search.result) c.terms.ensures.terms c.binary_search.ensures.position in
    place_found c.args.self.now c.args.term.now c.binary_search.result c.ok.result
    c.ok.ensures.value range found

pub returns-clause-none : goal.returns-clause-none
returns-clause-none c =
    let found = subst (λ (xs : List Term). IsBinarySearchResult (λ y. term_order y c.args.term.now)
    xs c.binary_search.result) c.terms.ensures.terms c.binary_search.ensures.position in
    place_none c.args.self.now c.args.term.now c.binary_search.result c.ok.result
    c.terms.ensures.ordered c.ok.ensures.value found
