use Rattle.std.proofs.Common.{◌≡◌, drop, length}
use Rattle.std.specs.Prelude.{map}
use Rattle.desk_bom.specs.Marks.{added_all}
use Rattle.desk_bom.proofs.arrows.Reached.add_all.Given as goal

-- what is left to add completes the whole
abbrev pub invariant-loop-arrow : goal.invariant-loop-arrow
invariant-loop-arrow l = record {
  order : added_all (map (λ x. x.to) (drop l.arrow-index l.arrows)) l.self.order.items
      ≡ added_all (map (λ x. x.to) l.arrows) l.fn.self.order.items;
  count : length l.self.marks.items ≡ length l.fn.self.marks.items;
}
