use Rattle.std.proofs.Common.{◌≡◌, drop}
use Rattle.toml.specs.View.{items_view}
use Rattle.desk_tree_annotations.specs.Right.{Reading, IsRight}
use Rattle.desk_tree_annotations.specs.Reading.{each, annotation_at}
use Rattle.desk_tree_annotations.proofs.entries.each_annotation.Given as goal
use Rattle.desk_base.proofs.Results.{onto}

-- the annotations so far, and those of the rest, are those of all
abbrev pub invariant-loop-i : goal.invariant-loop-i
invariant-loop-i l = (r : Reading) → IsRight r
    → onto l.list.items (each (annotation_at r) l.i (items_view (drop l.i l.values)))
    ≡ each (annotation_at r) 0 (items_view l.values)
