use Rattle.std.proofs.Common.{◌≡◌, ◌++◌, map, drop}
use Rattle.std.specs.Prelude.{filter}
use Rattle.desk_model.specs.Keys.{is_duty_of}
use Rattle.desk_memory_rows.specs.Ledgers.{all_of, standing_in}
use Rattle.desk_memory_rows.proofs.ledger.standings_of.Given as goal

abbrev pub invariant-loop-row : goal.invariant-loop-row
invariant-loop-row l = l.found.items
    ++ map (standing_in (all_of l.groups)) (filter (is_duty_of l.release) (drop l.row-index l.rows))
    ≡ map (standing_in (all_of l.groups)) (filter (is_duty_of l.release) l.rows)
