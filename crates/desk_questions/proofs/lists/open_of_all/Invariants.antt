use Rattle.std.proofs.Common.{◌≡◌, ◌++◌, drop}
use Rattle.std.specs.List.{flat_map}
use Rattle.desk_history.specs.FromTables.{open_found}
use Rattle.desk_access.specs.Seen.{OfRows}
use Rattle.desk_wanting.proofs.SoFar.{SoFar}
use Rattle.desk_questions.proofs.lists.open_of_all.Given as goal

abbrev pub invariant-loop-release : goal.invariant-loop-release
invariant-loop-release g l =
    SoFar
    (OfRows (λ t. l.duties.items ++ flat_map (open_found t) (drop l.release-index l.releases)
    ≡ flat_map (open_found t) l.releases))
    (g.S.Store.seen l.fn.store) (g.S.Store.seen l.store)
