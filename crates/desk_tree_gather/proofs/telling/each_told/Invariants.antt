use Rattle.std.proofs.Common.{◌≡◌, List}
use Rattle.std.specs.BTreeMap.{btree_map_len}
use Rattle.desk_tree_infos.specs.Readers.{Reader, IsRightReader}
use Rattle.desk_tree_infos.specs.Tomls.{TomlText}
use Rattle.desk_tree_infos.specs.Folders.{Holds}
use Rattle.desk_tree_gather.specs.Digests.{all_told}
use Rattle.desk_tree_gather.specs.Telling.{told_in}
use Rattle.desk_tree_gather.specs.Shown.{left_in}
use Rattle.desk_tree_gather.proofs.telling.each_told.Given as goal
use Rattle.desk_base.proofs.Results.{onto}

-- the trail has the same annotations; what is reported so far, with what is reported about those
-- that are left, is that of all
abbrev pub invariant-loop-path : goal.invariant-loop-path
invariant-loop-path l = record {
  same : l.trail.folders.now ≡ l.initial.trail.folders.now;
  told : (r : Reader) → IsRightReader r → (tomls : List TomlText)
      → Holds tomls l.initial.trail.folders.now
      → onto (all_told l.initial.trail.folders.now.all.items l.list.items)
      (told_in r tomls (left_in l.left)) ≡ told_in r tomls (left_in l.fn.tree);
}

abbrev pub decreases-loop-path : goal.decreases-loop-path
decreases-loop-path l = btree_map_len l.left
