use Rattle.std.proofs.Common.{◌≡◌, ◌++◌, drop}
use Rattle.std.specs.Prelude.{filter}
use Rattle.desk_model.specs.Keys.{is_shipped_by}
use Rattle.desk_memory.proofs.store.shipped_rows.Given as goal

abbrev pub invariant-loop-row : goal.invariant-loop-row
invariant-loop-row l = l.found.items ++ filter (is_shipped_by l.document) (drop l.row-index l.rows)
    ≡ filter (is_shipped_by l.document) l.rows
