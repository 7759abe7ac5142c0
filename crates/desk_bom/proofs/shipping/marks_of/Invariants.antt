use Rattle.std.proofs.Common.{◌≡◌, ◌+◌}
use Rattle.std.specs.Prelude.{map}
use Rattle.std.specs.List.{range_with_len}
use Rattle.desk_bom.specs.Marks.{among}
use Rattle.desk_bom.proofs.shipping.marks_of.Given as goal

abbrev pub invariant-loop-package : goal.invariant-loop-package
invariant-loop-package l = l.marks.items
    ≡ map (λ k. among l.reached.order.items (k + 1)) (range_with_len 0 l.package)
