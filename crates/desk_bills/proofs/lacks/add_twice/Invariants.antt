use Rattle.std.proofs.Common.{◌≡◌, ◌++◌, drop, take}
use Rattle.std.specs.List.{flat_map}
use Rattle.desk_model.specs.Gaps.{twice_gaps}
use Rattle.desk_bills.specs.Lacking.{Knows}
use Rattle.desk_bills.proofs.lacks.add_twice.Given as goal

abbrev pub invariant-loop-row : goal.invariant-loop-row
invariant-loop-row l =
    (l.gaps.items ++ flat_map (twice_gaps l.rows) (drop l.row-index l.rows)
    ≡ l.fn.gaps.items ++ flat_map (twice_gaps l.rows) l.rows)
    × Knows (take l.row-index l.rows) l.firsts
