use Rattle.std.proofs.Common.{◌≡◌, ◌≤◌, ◌-◌, true, false, length, map, take, drop}
use Rattle.desk_model.specs.Texts.{text_below}
use Rattle.desk_texts.specs.Rising.{Each}
use Rattle.desk_texts.proofs.sorting.lower.Given as goal

abbrev pub invariant-loop-low : goal.invariant-loop-low
invariant-loop-low g l = record {
  ordered : l.low ≤ l.high;
  within : l.high ≤ length l.fn.sorted.items;
  before : Each (λ x. text_below x l.fn.id ≡ true)
      (take l.low (map (λ p. g.P.Identified.id_of p.now) l.fn.sorted.items));
  behind : Each (λ x. text_below x l.fn.id ≡ false)
      (drop l.high (map (λ p. g.P.Identified.id_of p.now) l.fn.sorted.items));
}

abbrev pub decreases-loop-low : goal.decreases-loop-low
decreases-loop-low g l = l.high - l.low
