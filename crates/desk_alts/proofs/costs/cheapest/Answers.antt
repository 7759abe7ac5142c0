use Rattle.std.proofs.Common.{ℕ, List, Option, Some, None, length, subst, refl, arith}
use Rattle.desk_expr.specs.declared.term.Term.{Term}
use Rattle.desk_alts.specs.Costs.{IsLeastOf}
use Rattle.desk_alts.proofs.CostLemmas.{is_cheapest, none_cheapest}
use Rattle.desk_alts.proofs.costs.cheapest.Goals as goal

pub returns-in-Some-clause-choice : goal.returns-in-Some-clause-choice
returns-in-Some-clause-choice g c =
    let cost : Term → Option ℕ = g.C.Cost.cost_of c.args.cost.now in
    let sets : List (List Term) = c.in_ok-sets.sets.items in
    is_cheapest cost c.args.expr.now sets c.in_ok-sets.ensures.sets.only
    c.in_ok-sets.ensures.contained c.in_ok-sets.ensures.sets.ordered (length sets) c.in-Some.at
    c.in-Some.cost c.swap_remove.result refl c.swap_remove.ensures.value
    (subst (λ (l : List (List Term)). IsLeastOf cost l (length l)
    (Some (c.in-Some.at, c.in-Some.cost))) c.deref.ensures.value c.in-Some.ensures)

pub returns-clause-none : goal.returns-clause-none
returns-clause-none g c =
    let cost : Term → Option ℕ = g.C.Cost.cost_of c.args.cost.now in
    let sets : List (List Term) = c.in_ok-sets.sets.items in
    none_cheapest cost c.args.expr.now sets c.in_ok-sets.ensures.sets.only
    c.in_ok-sets.ensures.contained (length sets) (omega arith)
    (subst (λ (l : List (List Term)). IsLeastOf cost l (length l) None) c.deref.ensures.value
    c.in-None.ensures)
