use Rattle.std.proofs.Common.{◌+◌, map, drop}
use Rattle.desk_snapshot.specs.Rows.{AreFrom}
use Rattle.desk_audit_texts.proofs.numbering.are_numbered.Given as goal

-- the rows are numbered if and only if the rest are
abbrev pub invariant-loop-place : goal.invariant-loop-place
invariant-loop-place g l =
    let rest = AreFrom (l.place + 1) (map g.R.Numbered.number (drop l.place l.rows)) in
    let all = AreFrom 1 (map g.R.Numbered.number l.rows) in
    (rest → all) × (all → rest)
