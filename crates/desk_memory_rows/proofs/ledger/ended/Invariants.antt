use Rattle.std.proofs.Common.{◌≡◌, ◌++◌, map, drop}
use Rattle.std.specs.Prelude.{filter}
use Rattle.desk_memory_rows.specs.Ledgers.{all_of, ends_in, standing_in}
use Rattle.desk_memory_rows.proofs.ledger.ended.Given as goal

abbrev pub invariant-loop-row : goal.invariant-loop-row
invariant-loop-row l = l.found.items
    ++ map (standing_in (all_of l.groups))
    (filter (ends_in (all_of l.groups) l.day) (drop l.row-index l.rows))
    ≡ map (standing_in (all_of l.groups)) (filter (ends_in (all_of l.groups) l.day) l.rows)
