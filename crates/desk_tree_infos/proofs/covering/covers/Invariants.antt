use Rattle.std.proofs.Common.{◌≡◌, drop}
use Rattle.std.specs.List.{list_any}
use Rattle.desk_tree_infos.specs.Readers.{Reader, IsRightReader}
use Rattle.desk_tree_infos.specs.Information.{covers}
use Rattle.desk_tree_infos.proofs.covering.covers.Given as goal

abbrev pub invariant-loop-glob : goal.invariant-loop-glob
invariant-loop-glob l = (r : Reader) → IsRightReader r
    → list_any (λ pieces. r.matches pieces l.path) (drop l.glob-index l.glob-items)
    ≡ covers r l.annotation l.path
