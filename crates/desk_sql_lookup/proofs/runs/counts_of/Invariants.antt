use Rattle.std.proofs.Common.{◌≡◌, length, take}
use Rattle.desk_sql_lookup.specs.Steps.{AreCounts}
use Rattle.desk_sql_lookup.proofs.runs.counts_of.Given as goal

abbrev pub invariant-loop-number : goal.invariant-loop-number
invariant-loop-number l = AreCounts l.first (take l.number-index l.numbers) l.counts.items
    × (length l.counts.items ≡ l.fn.many)
