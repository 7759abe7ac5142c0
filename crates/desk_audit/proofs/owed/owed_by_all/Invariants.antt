use Rattle.std.proofs.Common.{◌≡◌, ◌++◌, drop, map}
use Rattle.std.specs.Prelude.{flat_map}
use Rattle.desk_snapshot.specs.Conditions.{owed_by}
use Rattle.desk_audit.specs.Owing.{owed_in}
use Rattle.desk_audit.proofs.owed.owed_by_all.Given as goal

-- what is listed, and what is still to come, is all that is owed
abbrev pub invariant-loop-row : goal.invariant-loop-row
invariant-loop-row l =
    map owed_in l.owed.items ++ flat_map (owed_by l.ruling.snapshot.now) (drop l.row-index l.rows)
    ≡ flat_map (owed_by l.ruling.snapshot.now) l.rows
