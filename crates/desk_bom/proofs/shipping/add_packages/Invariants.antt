use Rattle.std.proofs.Common.{◌≡◌, ℕ, length}
use Rattle.std.specs.Prelude.{◌||◌, ◌&&◌, nat_le}
use Rattle.desk_bom.specs.Marks.{among}
use Rattle.desk_bom.proofs.shipping.add_packages.Given as goal

abbrev pub invariant-loop-package : goal.invariant-loop-package
invariant-loop-package l = record {
  order : (a : ℕ) → among l.reached.order.items a
      ≡ (among l.fn.reached.order.items a || nat_le 1 a && nat_le a l.package);
  count : length l.reached.marks.items ≡ length l.fn.reached.marks.items;
}
