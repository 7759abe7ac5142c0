use Rattle.std.proofs.Common.{◌≡◌, ◌+◌, drop}
use Rattle.desk_audit.specs.Walks.{count_from}
use Rattle.desk_audit.proofs.numbers.count_from_one.Given as goal

-- the duties that are left are judged as all are
abbrev pub invariant-loop-place : goal.invariant-loop-place
invariant-loop-place l = count_from (1 + l.place) (drop l.place l.duties) ≡ count_from 1 l.duties
