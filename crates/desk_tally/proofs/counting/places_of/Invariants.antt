use Rattle.std.proofs.Common.{◌≡◌, ◌++◌, map, drop}
use Rattle.desk_tally.proofs.counting.places_of.Given as goal

abbrev pub invariant-loop-release : goal.invariant-loop-release
invariant-loop-release l = l.places.items
    ++ map (λ row. row.place) (drop l.release-index l.releases) ≡ map (λ row. row.place) l.releases
