use Rattle.std.proofs.Common.{◌≡◌, drop}
use Rattle.desk_tally.specs.Kept.{place_found}
use Rattle.desk_tally.proofs.counting.place_of.Given as goal

abbrev pub invariant-loop-release : goal.invariant-loop-release
invariant-loop-release l = place_found (drop l.release-index l.releases) l.name
    ≡ place_found l.releases l.name
