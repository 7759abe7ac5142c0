use Rattle.desk_import.proofs.DistinctLemmas.{Counts}
use Rattle.desk_import.proofs.elsewhere.count_distinct.Given as goal

abbrev pub invariant-loop-text : goal.invariant-loop-text
invariant-loop-text l = Counts l.listed l.text-index l.seen
