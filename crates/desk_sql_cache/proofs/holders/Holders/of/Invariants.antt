use Rattle.std.proofs.Common.{take}
use Rattle.desk_sorted.specs.Blocks.{rows_in}
use Rattle.desk_sql_cache.specs.Holding.{AreHoldersOf}
use Rattle.desk_sql_cache.proofs.holders.Holders.of.Given as goal

abbrev pub invariant-loop-row : goal.invariant-loop-row
invariant-loop-row l = AreHoldersOf l.releases (take l.row-index l.choices)
    (rows_in l.rows.blocks.items)
