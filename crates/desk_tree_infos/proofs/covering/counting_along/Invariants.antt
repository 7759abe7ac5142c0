use Rattle.std.proofs.Common.{◌≡◌, ◌++◌, drop, map, IsUtf8}
use Rattle.desk_tree_infos.specs.Readers.{Reader, IsRightReader}
use Rattle.desk_tree_infos.specs.Sharing.{annotations_at}
use Rattle.desk_tree_infos.specs.Ways.{lists_of}
use Rattle.desk_tree_infos.proofs.WayLemmas.{along}
use Rattle.desk_tree_infos.proofs.covering.counting_along.Given as goal

-- what counts so far, and what counts in the folders that follow, is all that counts
abbrev pub invariant-loop-numbers : goal.invariant-loop-numbers
invariant-loop-numbers l = record {
  utf8 : IsUtf8 l.rest;
  so_far : (r : Reader) → IsRightReader r
      → annotations_at l.all l.list.items
      ++ along r (map (annotations_at l.all) (lists_of (drop l.numbers-index l.lists))) l.rest
      ≡ along r (map (annotations_at l.all) (lists_of l.lists)) l.path;
}
