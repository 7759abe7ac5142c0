use Rattle.std.proofs.Common.{◌≡◌, ◌++◌, map, drop}
use Rattle.desk_memory_rows.specs.Ledgers.{place_of}
use Rattle.desk_memory_rows.proofs.ledger.places_of.Given as goal

abbrev pub invariant-loop-change : goal.invariant-loop-change
invariant-loop-change l = l.places.items ++ map place_of (drop l.change-index l.changes)
    ≡ map place_of l.changes
