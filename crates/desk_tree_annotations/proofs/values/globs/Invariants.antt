use Rattle.std.proofs.Common.{◌≡◌, map, take}
use Rattle.desk_tree_annotations.specs.Right.{Reading, IsRight}
use Rattle.desk_tree_annotations.proofs.values.globs.Given as goal

abbrev pub invariant-loop-place : goal.invariant-loop-place
invariant-loop-place l = (r : Reading) → IsRight r → l.globs ≡ map r.pieces (take l.place l.listed)
