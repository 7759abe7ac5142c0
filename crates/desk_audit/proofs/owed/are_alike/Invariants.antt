use Rattle.std.proofs.Common.{◌≡◌, drop}
use Rattle.desk_audit.specs.Owing.{are_alike}
use Rattle.desk_audit.proofs.owed.are_alike.Given as goal

-- what is left is compared as all is
abbrev pub invariant-loop-place : goal.invariant-loop-place
invariant-loop-place l = are_alike (drop l.place l.owed) (drop l.place l.duties)
    ≡ are_alike l.owed l.duties
