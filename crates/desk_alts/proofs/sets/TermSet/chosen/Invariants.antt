use Rattle.desk_alts.proofs.Choosing.{AreBelow}
use Rattle.desk_alts.proofs.sets.TermSet.chosen.Given as goal

-- the terms at the set's places below the index
abbrev pub invariant-loop-place : goal.invariant-loop-place
invariant-loop-place l = AreBelow l.table l.places l.terms.items l.place
