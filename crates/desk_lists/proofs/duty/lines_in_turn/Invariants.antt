use Rattle.std.proofs.Common.{◌≡◌, filter, map, take}
use Rattle.desk_lists.specs.Duties.{duty_line, is_wanted}
use Rattle.desk_lists.proofs.duty.lines_in_turn.Given as goal

-- the line of each duty before the index that is asked for
abbrev pub invariant-loop-row : goal.invariant-loop-row
invariant-loop-row l = l.lines.items
    ≡ map (duty_line l.snapshot l.titles)
    (filter (is_wanted l.snapshot l.wanted) (take l.row-index l.row-items))
