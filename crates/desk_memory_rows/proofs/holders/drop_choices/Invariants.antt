use Rattle.std.proofs.Common.{◌≡◌, drop}
use Rattle.desk_memory_rows.specs.Holders.{letting_go}
use Rattle.desk_sorted.specs.Blocks.{rows_in}
use Rattle.desk_memory_rows.proofs.holders.drop_choices.Given as goal

abbrev pub invariant-loop-row : goal.invariant-loop-row
invariant-loop-row l = letting_go l.place (drop l.row-index l.rows) (rows_in l.holders.blocks.items)
    ≡ letting_go l.place l.rows (rows_in l.fn.holders.blocks.items)
