use Rattle.std.proofs.Common.{◌≡◌, ◌∙◌, ℕ, ◌+◌, List, [], Option, get_or, sym, subst}
use Rattle.std.proofs.lemmas.List.{get_or_default}
use Rattle.desk_expr.specs.declared.term.Term.{Term}
use Rattle.desk_alts.specs.Costs.{HasCosts, IsLeastOf}
use Rattle.desk_alts.proofs.CostLemmas.{least_none, least_first, least_new, least_kept, same_price}
use Rattle.desk_alts.proofs.costs.least.Goals as goal
use Rattle.desk_alts.proofs.costs.least.Goals.{in-Some+in-Some-best, in-Some+in_default-best-2}
use Rattle.desk_alts.proofs.costs.least.Goals.{in-Some+in_default-best, in_default}

pub loop-at-preserved : goal.loop-at-preserved
loop-at-preserved g c =
    let cost : Term → Option ℕ = g.C.Cost.cost_of c.args.cost.now in
    let sets : List (List Term) = c.args.sets.now in
    let at : ℕ = c.loop-at.at in
    let read : c.index-sets-at.result ≡ get_or sets at [] = c.index-sets-at.is
    ∙ sym (get_or_default sets at [] c.index-sets-at.result c.loop-at-test.true) in
    elim c.match-price.branch [
      | in-Some+in-Some-best w ↦
          subst (IsLeastOf cost sets (at + 1)) (sym w.best-is)
          (least_kept cost sets at w.in-Some-best.first w.in-Some-best.least w.in-Some.price
          (w.in-Some.ensures.some.1 ∙ same_price cost c.index-sets-at.result (get_or sets at [])
          read) w.if-least-price.true
          (subst (IsLeastOf cost sets at) w.in-Some-best.is c.loop-at.invariant))
      | in-Some+in_default-best-2 w ↦
          subst (IsLeastOf cost sets (at + 1)) (sym w.best-is)
          (least_new cost sets at w.in-Some-best.first w.in-Some-best.least w.in-Some.price
          (subst (HasCosts cost) read w.in-Some.ensures.some.0)
          (w.in-Some.ensures.some.1 ∙ same_price cost c.index-sets-at.result (get_or sets at [])
          read) w.if-least-price.false
          (subst (IsLeastOf cost sets at) w.in-Some-best.is c.loop-at.invariant))
      | in-Some+in_default-best w ↦
          subst (IsLeastOf cost sets (at + 1)) (sym w.best-is)
          (least_first cost sets at w.in-Some.price
          (subst (HasCosts cost) read w.in-Some.ensures.some.0)
          (w.in-Some.ensures.some.1 ∙ same_price cost c.index-sets-at.result (get_or sets at [])
          read)
          (subst (IsLeastOf cost sets at) w.in_default-best.is c.loop-at.invariant))
      | in_default w ↦
          subst (IsLeastOf cost sets (at + 1)) (sym w.best-is)
          (least_none cost sets at c.loop-at.best
          (subst (λ (s : List Term). HasCosts cost s → ⊥) read w.in_default.ensures.none)
          c.loop-at.invariant)
    ]
