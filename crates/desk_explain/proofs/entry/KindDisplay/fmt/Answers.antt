use Rattle.desk_explain.proofs.entry.KindDisplay.fmt.Goals as goal

pub returns-in-Finding-clause-writes : goal.returns-in-Finding-clause-writes
returns-in-Finding-clause-writes g c = rw c.in-Finding.is c.write-in-Finding.ensures.writes
