use Rattle.std.proofs.Common.{◌≡◌, ℕ, true, false, subst, sym, arith, length}
use Rattle.desk_tally.specs.Stands.{are_places}
use Rattle.desk_tally.specs.Kept.{IsKept}
use Rattle.desk_tally.proofs.Placing.{counted_are_kept}
use Rattle.desk_tally.proofs.tallies.Tallies.standing.Goals as goal

pub returns-clause-kept : goal.returns-clause-kept
returns-clause-kept c = λ t from.
    let places = c.args.places.now in
    let tallies = c.in_ok-tallies.tallies in
    let free : are_places (length places) (λ place. false) places ≡ true =
    cc (c.in_ok-are_places.ensures) in
    let same : length tallies.items ≡ length places =
    omega (arith, tallies.ok.0, c.in_ok-tallies.ensures.len) in
    subst (λ (n : ℕ). IsKept n c.args.stands.items t) (sym same)
    (counted_are_kept places c.args.stands.items t free from)
