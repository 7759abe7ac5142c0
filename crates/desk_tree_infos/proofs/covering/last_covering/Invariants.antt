use Rattle.std.proofs.Common.{◌≡◌, drop}
use Rattle.std.specs.Prelude.{option_and_then}
use Rattle.std.specs.List.{slice_get}
use Rattle.desk_tree_infos.specs.Readers.{Reader, IsRightReader}
use Rattle.desk_tree_infos.specs.Information.{last_covering, or_else}
use Rattle.desk_tree_infos.specs.Sharing.{annotations_at}
use Rattle.desk_tree_infos.proofs.covering.last_covering.Given as goal

-- the last of the rest, or the last so far
abbrev pub invariant-loop-number : goal.invariant-loop-number
invariant-loop-number l = (r : Reader) → IsRightReader r
    → or_else (last_covering r l.path (annotations_at l.all (drop l.number-index l.numbers)))
    (option_and_then (slice_get l.all) l.last)
    ≡ last_covering r l.path (annotations_at l.all l.numbers)
