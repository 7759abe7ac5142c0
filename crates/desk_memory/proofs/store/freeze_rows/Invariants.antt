use Rattle.std.proofs.Common.{◌≡◌, ◌++◌, map, take, drop}
use Rattle.desk_model.specs.Tables.{with_release_state}
use Rattle.desk_model.specs.declared.state.ReleaseState.TheVariants.{Frozen}
use Rattle.desk_memory.proofs.store.freeze_rows.Given as goal

abbrev pub invariant-loop-row : goal.invariant-loop-row
invariant-loop-row l = take l.row-index l.rows
    ++ map (with_release_state Frozen l.revision) (drop l.row-index l.rows)
    ≡ map (with_release_state Frozen l.revision) l.fn.rows
