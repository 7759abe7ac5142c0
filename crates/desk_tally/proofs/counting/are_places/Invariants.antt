use Rattle.std.proofs.Common.{◌≡◌, ◌+◌, false, get_or, drop, vec_len}
use Rattle.desk_tally.specs.Stands.{are_places}
use Rattle.desk_tally.proofs.counting.are_places.Given as goal

abbrev pub invariant-loop-place : goal.invariant-loop-place
invariant-loop-place l = record {
  len : vec_len l.is_taken ≡ l.count + 1;
  left : are_places l.count (λ place. get_or l.is_taken.items place false)
      (drop l.place-index l.places) ≡ are_places l.count (λ place. false) l.places;
}
