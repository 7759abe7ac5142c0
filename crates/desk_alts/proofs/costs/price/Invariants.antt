use Rattle.std.proofs.Common.{◌≡◌, ◌≤◌, ◌*◌, length, take}
use Rattle.desk_alts.specs.Costs.{HasCosts, set_cost}
use Rattle.desk_alts.proofs.costs.price.Given as goal

-- the terms before the index have costs, and the sum is theirs
abbrev pub invariant-loop-term : goal.invariant-loop-term
invariant-loop-term g l = record {
  costs : HasCosts (g.C.Cost.cost_of l.cost) (take l.term-index l.terms);
  sum : l.sum ≡ set_cost (g.C.Cost.cost_of l.cost) (take l.term-index l.terms);
  few : length l.terms ≤ 128;
  bound : l.sum ≤ 1000000 * l.term-index;
}
