use Rattle.std.proofs.Common.{◌≡◌, length}
use Rattle.desk_alts.proofs.ListedLemmas.{NotedTo}
use Rattle.desk_alts.proofs.listed.places_of.Given as goal

-- what is noted of the listed terms before the place
abbrev pub invariant-loop-place : goal.invariant-loop-place
invariant-loop-place l = record {
  size : length l.places ≡ 1024;
  noted : NotedTo l.chosen l.own l.places l.place;
}
