use Rattle.std.proofs.Common.{◌≡◌, ◌++◌, drop, filter, map}
use Rattle.desk_access.specs.Seen.{OfRows}
use Rattle.desk_wanting.specs.Idle.{ships_nothing}
use Rattle.desk_wanting.proofs.SoFar.{SoFar}
use Rattle.desk_wanting.proofs.idle.idle_among.Given as goal

abbrev pub invariant-loop-row : goal.invariant-loop-row
invariant-loop-row g l =
    SoFar
    (OfRows (λ t. l.numbers.items
    ++ filter (ships_nothing t.packages) (map (λ row. row.document) (drop l.row-index l.attached))
    ≡ filter (ships_nothing t.packages) (map (λ row. row.document) l.attached)))
    (g.S.Store.seen l.fn.store) (g.S.Store.seen l.store)
