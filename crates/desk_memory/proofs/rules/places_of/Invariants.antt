use Rattle.std.proofs.Common.{◌≡◌, ◌+◌, ◌++◌, drop}
use Rattle.desk_memory.specs.RulePlaces.{rule_places}
use Rattle.desk_memory.proofs.rules.places_of.Given as goal

abbrev pub invariant-loop-at : goal.invariant-loop-at
invariant-loop-at l = l.places.items ++ rule_places (l.first + l.at) (drop l.at l.rows)
    ≡ rule_places l.first l.rows
