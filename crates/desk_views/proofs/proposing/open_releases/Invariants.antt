use Rattle.std.proofs.Common.{◌≡◌, filter, map, pos, take}
use Rattle.desk_views.specs.Proposing.{is_open_with}
use Rattle.desk_views.proofs.proposing.open_releases.Given as goal

-- the names of the open releases with the document before the index
abbrev pub invariant-loop-release : goal.invariant-loop-release
invariant-loop-release l = l.names.items
    ≡ map (λ row. row.name) (filter (is_open_with l.snapshot (pos l.number))
    (take l.release-index l.release-items))
