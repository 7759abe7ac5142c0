use Rattle.std.proofs.Common.{◌≡◌, ◌++◌, drop}
use Rattle.toml.specs.View.{items_view}
use Rattle.desk_tree_annotations.specs.Right.{Reading, IsRight}
use Rattle.desk_tree_annotations.specs.Reading.{annotation_at}
use Rattle.desk_tree_annotations.specs.Sifting.{each_good, each_bad}
use Rattle.desk_tree_annotations.proofs.sifting.each_sifted.Given as goal

-- what is sifted so far, and the rest, is all
abbrev pub invariant-loop-i : goal.invariant-loop-i
invariant-loop-i l = record {
  annotations : (r : Reading) → IsRight r
      → l.sifted.annotations ++ each_good (annotation_at r) l.i (items_view (drop l.i l.values))
      ≡ each_good (annotation_at r) 0 (items_view l.values);
  faults : (r : Reading) → IsRight r
      → l.sifted.faults ++ each_bad (annotation_at r) l.i (items_view (drop l.i l.values))
      ≡ each_bad (annotation_at r) 0 (items_view l.values);
}
