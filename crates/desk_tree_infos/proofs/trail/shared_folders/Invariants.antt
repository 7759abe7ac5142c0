use Rattle.std.proofs.Common.{◌≤◌, ◌+◌, length}
use Rattle.desk_tree_infos.proofs.WayLemmas.{IsShared}
use Rattle.desk_tree_infos.proofs.trail.shared_folders.Given as goal

abbrev pub invariant-loop-byte : goal.invariant-loop-byte
invariant-loop-byte l = record {
  shares : IsShared l.before l.path l.old l.new l.rest l.folders;
  room : l.folders + length l.new ≤ length l.path + 1;
  within : length l.rest ≤ length l.path;
}

abbrev pub decreases-loop-byte : goal.decreases-loop-byte
decreases-loop-byte l = length l.new
