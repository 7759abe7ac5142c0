use Rattle.std.proofs.Common.{◌≡◌, take, vec_len}
use Rattle.desk_tally.specs.Stands.{AreTallied}
use Rattle.desk_tally.proofs.counting.tallies_of.Given as goal

abbrev pub invariant-loop-stand : goal.invariant-loop-stand
invariant-loop-stand l = record {
  len : vec_len l.tallies ≡ l.releases;
  tallied : AreTallied (take l.stand-index l.stands) l.tallies.items;
}
