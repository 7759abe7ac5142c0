use Rattle.std.proofs.Common.{◌≡◌, ℕ, length}
use Rattle.std.specs.Prelude.{slice_index_or}
use Rattle.desk_sql_lookup.proofs.runs.zeros.Given as goal

abbrev pub invariant-loop : goal.invariant-loop
invariant-loop l = (length l.zeros.items ≡ l.counter)
    × ((i : ℕ) → slice_index_or l.zeros.items i 0 ≡ 0)
