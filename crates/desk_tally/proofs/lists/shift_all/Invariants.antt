use Rattle.std.proofs.Common.{◌≡◌, ◌≤◌, true, length, drop, vec_len}
use Rattle.desk_tally.specs.Stands.{AreTallied, are_placed, shifted}
use Rattle.desk_tally.proofs.lists.shift_all.Given as goal

abbrev pub invariant-loop-left : goal.invariant-loop-left
invariant-loop-left l = record {
  within : l.left ≤ length l.shifts;
  count : vec_len l.stands ≡ vec_len l.fn.stands;
  len : vec_len l.tallies ≡ vec_len l.fn.tallies;
  stands : l.stands.items ≡ shifted (drop l.left l.shifts) l.fn.stands.items;
  placed : are_placed (vec_len l.tallies) l.stands.items ≡ true;
  tallied : AreTallied l.stands.items l.tallies.items;
}

abbrev pub decreases-loop-left : goal.decreases-loop-left
decreases-loop-left l = l.left
