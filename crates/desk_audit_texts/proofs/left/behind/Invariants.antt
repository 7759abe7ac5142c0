use Rattle.std.proofs.Common.{◌≡◌, ◌++◌, List, map, drop}
use Rattle.desk_audit_texts.proofs.left.behind.Given as goal

-- the rows begin with those of the items if and only if the rest begin with those of the rest
abbrev pub invariant-loop-item : goal.invariant-loop-item
invariant-loop-item g l =
    (end : List _) →
    let rest = l.rest ≡ map (g.R.Stored.stored l.number) (drop l.item-index l.items) ++ end in
    let all = l.rows ≡ map (g.R.Stored.stored l.number) l.items ++ end in
    (rest → all) × (all → rest)
