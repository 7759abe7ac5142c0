use Rattle.std.proofs.Common.{List}
use Rattle.std.proofs.lemmas.List.Sorted.{All-permutation, Contains-permutation}
use Rattle.desk_expr.specs.declared.term.Term.{Term}
use Rattle.desk_expr.specs.Meaning.{IsMinimal, IsSubset}
use Rattle.desk_alts.specs.Sets.{IsTermSet}
use Rattle.desk_alts.specs.Faults.{IsFaultOf, IsWidthFaultOf}
use Rattle.desk_alts.proofs.FaultLemmas.{handed_on, few_terms_fault}
use Rattle.desk_alts.proofs.ListingLemmas.{all_minimal, every_minimal, each_contains, all_differ}
use Rattle.desk_alts.proofs.ListingLemmas.{strictly_sorted, few_terms, any_moved, fits}
use Rattle.desk_alts.proofs.listing.alternatives.Goals as goal

pub minimal_sets-requires : goal.minimal_sets-requires
minimal_sets-requires c = fits c.args.expr.now c.in_ok-table.table c.terms.result.now
    c.in_ok-table.ensures c.terms.ensures.terms c.if-terms-gt-LISTED_TERMS.false

pub returns-in_err-kept-clause-fault : goal.returns-in_err-kept-clause-fault
returns-in_err-kept-clause-fault c =
    let fit = fits c.args.expr.now c.in_ok-table.table c.terms.result.now c.in_ok-table.ensures
    c.terms.ensures.terms c.if-terms-gt-LISTED_TERMS.false in
    handed_on (IsWidthFaultOf c.args.expr.now) (IsFaultOf c.args.expr.now)
    (few_terms_fault c.args.expr.now
    (few_terms c.args.expr.now c.in_ok-table.table c.in_ok-table.ensures fit.few))
    c.from_residual-in_err-kept.result c.in_err-kept.field-0.0 c.from_residual-in_err-kept.ensures.1
    c.in_err-kept.ensures.wide

pub returns-clause-sets : goal.returns-clause-sets
returns-clause-sets c =
    let fit = fits c.args.expr.now c.in_ok-table.table c.terms.result.now c.in_ok-table.ensures
    c.terms.ensures.terms c.if-terms-gt-LISTED_TERMS.false in
    record {
      only = All-permutation (λ (s : List Term). IsTermSet s × IsMinimal s c.args.expr.now)
          c.in_ok-sets.sets.items c.sort.new.self.items c.in_ok-sort.ensures.permutation
          (all_minimal c.in_ok-table.table c.args.expr.now c.in_ok-kept.kept c.in_ok-sets.sets.items
          fit c.in_ok-kept.ensures.minimal c.in_ok-sets.ensures);
      every = λ s up least. Contains-permutation c.in_ok-sets.sets.items c.sort.new.self.items s
          c.in_ok-sort.ensures.permutation
          (every_minimal c.in_ok-table.table c.args.expr.now c.in_ok-kept.kept
          c.in_ok-sets.sets.items fit c.in_ok-kept.ensures.minimal c.in_ok-sets.ensures s up least);
      ordered = strictly_sorted c.in_ok-sets.sets.items c.sort.new.self.items
          c.in_ok-sort.ensures.permutation
          (all_differ c.in_ok-table.table c.args.expr.now c.in_ok-kept.kept c.in_ok-sets.sets.items
          fit c.in_ok-kept.ensures.minimal c.in_ok-sets.ensures) c.in_ok-sort.ensures.sorted;
    }

pub returns-clause-contained : goal.returns-clause-contained
returns-clause-contained c =
    let fit = fits c.args.expr.now c.in_ok-table.table c.terms.result.now c.in_ok-table.ensures
    c.terms.ensures.terms c.if-terms-gt-LISTED_TERMS.false in
    λ s holds. any_moved (λ m. IsSubset m s) c.in_ok-sets.sets.items c.sort.new.self.items
    c.in_ok-sort.ensures.permutation
    (each_contains c.in_ok-table.table c.args.expr.now c.in_ok-kept.kept c.in_ok-sets.sets.items fit
    c.in_ok-kept.ensures.minimal c.in_ok-sets.ensures s holds)

pub returns-clause-listable : goal.returns-clause-listable
returns-clause-listable c =
    let fit = fits c.args.expr.now c.in_ok-table.table c.terms.result.now c.in_ok-table.ensures
    c.terms.ensures.terms c.if-terms-gt-LISTED_TERMS.false in (
      few_terms c.args.expr.now c.in_ok-table.table c.in_ok-table.ensures fit.few,
      c.in_ok-kept.ensures.narrow,
    )
