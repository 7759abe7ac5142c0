use Rattle.std.proofs.Common.{◌≡◌, ◌++◌, map, take, drop}
use Rattle.desk_model.specs.Tables.{withdrawn_release}
use Rattle.desk_memory.proofs.store.withdraw_rows.Given as goal

abbrev pub invariant-loop-row : goal.invariant-loop-row
invariant-loop-row l = take l.row-index l.rows ++ map withdrawn_release (drop l.row-index l.rows)
    ≡ map withdrawn_release l.fn.rows
