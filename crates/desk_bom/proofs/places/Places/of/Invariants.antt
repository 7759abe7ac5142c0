use Rattle.std.proofs.Common.{◌≡◌, ◌<◌, length}
use Rattle.desk_bom.specs.Places.{Finds}
use Rattle.desk_bom.proofs.places.Places.of.Given as goal
use Rattle.desk_base.specs.Borrowed.{texts}

-- those so far are found
abbrev pub invariant-loop-place : goal.invariant-loop-place
invariant-loop-place l = record {
  room : 0 < length l.slots.items;
  count : l.count ≡ length l.ids.items;
  finds : Finds l.place (texts l.ids.items) l.slots.items l.tree;
}
