use Rattle.std.proofs.Common.{◌≡◌, ◌++◌, drop}
use Rattle.std.specs.Prelude.{filter}
use Rattle.desk_model.specs.Keys.{is_duty_of}
use Rattle.desk_memory.proofs.store.duties_of.Given as goal

abbrev pub invariant-loop-row : goal.invariant-loop-row
invariant-loop-row l = l.found.items ++ filter (is_duty_of l.release) (drop l.row-index l.rows)
    ≡ filter (is_duty_of l.release) l.rows
