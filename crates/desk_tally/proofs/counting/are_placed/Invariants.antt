use Rattle.std.proofs.Common.{◌≡◌, drop}
use Rattle.desk_tally.specs.Stands.{are_placed}
use Rattle.desk_tally.proofs.counting.are_placed.Given as goal

abbrev pub invariant-loop-stand : goal.invariant-loop-stand
invariant-loop-stand l = are_placed l.releases (drop l.stand-index l.stands)
    ≡ are_placed l.releases l.stands
