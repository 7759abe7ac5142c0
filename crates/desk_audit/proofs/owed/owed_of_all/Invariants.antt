use Rattle.std.proofs.Common.{◌≡◌, map, take}
use Rattle.desk_snapshot.specs.Conditions.{owed_of}
use Rattle.desk_audit.specs.Owing.{owed_in}
use Rattle.desk_audit.proofs.owed.owed_of_all.Given as goal

abbrev pub invariant-loop-duty : goal.invariant-loop-duty
invariant-loop-duty l = map owed_in l.owed.items ≡ map owed_of (take l.duty-index l.duties)
