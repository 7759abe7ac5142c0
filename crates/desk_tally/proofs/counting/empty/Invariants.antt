use Rattle.std.proofs.Common.{◌≡◌, [], vec_len}
use Rattle.desk_tally.specs.Stands.{AreTallied}
use Rattle.desk_tally.proofs.counting.empty.Given as goal

abbrev pub invariant-loop : goal.invariant-loop
invariant-loop l = record {
  len : vec_len l.tallies ≡ l.counter;
  tallied : AreTallied [] l.tallies.items;
}
