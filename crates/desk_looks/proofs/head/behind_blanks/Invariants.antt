use Rattle.std.proofs.Common.{◌≡◌, length}
use Rattle.desk_looks.specs.Looks.{behind_blanks}
use Rattle.desk_looks.proofs.head.behind_blanks.Given as goal

abbrev pub invariant-loop-rest : goal.invariant-loop-rest
invariant-loop-rest l = behind_blanks l.rest ≡ behind_blanks l.bytes

abbrev pub decreases-loop-rest : goal.decreases-loop-rest
decreases-loop-rest l = length l.rest
