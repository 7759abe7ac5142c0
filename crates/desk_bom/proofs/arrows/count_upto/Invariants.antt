use Rattle.std.proofs.Common.{◌≡◌, ◌≤◌}
use Rattle.std.specs.List.{AllWithin}
use Rattle.desk_bom.proofs.arrows.count_upto.Given as goal

-- none so far comes from a higher place
abbrev pub invariant-loop-arrow : goal.invariant-loop-arrow
invariant-loop-arrow l = record {
  count : l.count ≡ l.arrow-index;
  upto : AllWithin (λ x. x.from ≤ l.place) l.arrows 0 l.arrow-index;
}
