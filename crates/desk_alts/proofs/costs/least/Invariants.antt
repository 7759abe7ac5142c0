use Rattle.desk_alts.specs.Costs.{IsLeastOf}
use Rattle.desk_alts.proofs.costs.least.Given as goal

-- the best of the sets before the index
abbrev pub invariant-loop-at : goal.invariant-loop-at
invariant-loop-at g l = IsLeastOf (g.C.Cost.cost_of l.cost) l.sets l.at l.best
