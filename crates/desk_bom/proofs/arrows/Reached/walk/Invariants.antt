use Rattle.std.proofs.Common.{◌≡◌, length}
use Rattle.desk_bom.specs.Marks.{among}
use Rattle.desk_bom.proofs.WalkLemmas.{Walks}
use Rattle.desk_bom.proofs.arrows.Reached.walk.Given as goal

abbrev pub invariant-loop-done : goal.invariant-loop-done
invariant-loop-done l = record {
  walks : Walks (among l.fn.self.order.items) l.arrows l.self.order.items l.done;
  count : length l.self.marks.items ≡ length l.fn.self.marks.items;
}
