use Rattle.std.proofs.Common.{◌≡◌, ◌++◌, drop}
use Rattle.std.specs.List.{flat_map}
use Rattle.desk_model.specs.Gaps.{copyright_gaps}
use Rattle.desk_bills.proofs.lacks.add_copyrights.Given as goal

abbrev pub invariant-loop-row : goal.invariant-loop-row
invariant-loop-row l = l.gaps.items ++ flat_map copyright_gaps (drop l.row-index l.rows)
    ≡ l.fn.gaps.items ++ flat_map copyright_gaps l.rows
