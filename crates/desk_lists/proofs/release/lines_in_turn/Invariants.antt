use Rattle.std.proofs.Common.{◌≡◌, map, take}
use Rattle.desk_lists.specs.Held.{duties_held}
use Rattle.desk_lists.specs.Releases.{release_line}
use Rattle.desk_lists.proofs.release.lines_in_turn.Given as goal

-- the line of each release before the index
abbrev pub invariant-loop-release : goal.invariant-loop-release
invariant-loop-release l = l.lines.items
    ≡ map (release_line (duties_held l.held.rows.items)) (take l.release-index l.rows)
