use Rattle.std.proofs.Common.{◌≡◌, ◌≤◌, ◌++◌, length, map}
use Rattle.desk_tree_infos.specs.Folders.{kept_for}
use Rattle.desk_tree_infos.specs.Information.{rests}
use Rattle.desk_tree_infos.specs.Ways.{way, lists_of}
use Rattle.desk_tree_infos.proofs.trail.add_behind.Given as goal

-- what was added, and what is still to come, is all
abbrev pub invariant-loop-byte : goal.invariant-loop-byte
invariant-loop-byte l = record {
  within : length l.rest ≤ length l.path;
  so_far : lists_of l.lists.items ++ map (kept_for l.folders) (map (way l.path) (rests l.rest))
      ≡ lists_of l.initial.lists.items
      ++ map (kept_for l.folders) (map (way l.path) (rests l.fn.rest));
}

abbrev pub decreases-loop-byte : goal.decreases-loop-byte
decreases-loop-byte l = length l.rest
