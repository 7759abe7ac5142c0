use Rattle.std.proofs.Common.{◌≡◌, None, replicate}
use Rattle.desk_bills.proofs.texts.no_texts.Given as goal

abbrev pub invariant-loop : goal.invariant-loop
invariant-loop l = l.found ≡ replicate l.index None
