use Rattle.std.proofs.Common.{◌≡◌, []}
use Rattle.std.specs.Vec.Iter.{into_iter_items}
use Rattle.desk_tree_gather.specs.Trees.{placed}
use Rattle.desk_tree_gather.specs.Shown.{left_in}
use Rattle.desk_tree_gather.proofs.telling.place_files.Given as goal

-- the files so far and the rest of them give what all give
abbrev pub invariant-loop-file : goal.invariant-loop-file
invariant-loop-file l = placed (left_in l.left) (into_iter_items l.file-iterator)
    ≡ placed [] l.fn.files.items
