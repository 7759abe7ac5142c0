use Rattle.std.proofs.Common.{◌≡◌, true, ℕ}
use Rattle.desk_access.specs.Follows.{are_first}
use Rattle.desk_memory_rows.specs.Ledgers.{AreSingles}
use Rattle.desk_memory_rows.proofs.ledger.singles.Given as goal

abbrev pub invariant-loop-change : goal.invariant-loop-change
invariant-loop-change l = (first : ℕ) → are_first first l.yielded ≡ true
    → AreSingles first l.yielded l.groups.items
