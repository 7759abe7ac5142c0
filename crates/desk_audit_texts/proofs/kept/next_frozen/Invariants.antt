use Rattle.std.proofs.Common.{◌≡◌, filter, drop}
use Rattle.desk_snapshot.specs.Rows.{is_frozen_in}
use Rattle.desk_audit_texts.proofs.kept.next_frozen.Given as goal

abbrev pub invariant-loop-place : goal.invariant-loop-place
invariant-loop-place l = filter (is_frozen_in l.release) (drop l.place l.rows)
    ≡ filter (is_frozen_in l.release) l.rows
