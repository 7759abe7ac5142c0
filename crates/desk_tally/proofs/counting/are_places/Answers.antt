use Rattle.std.proofs.Common.{◌≡◌, ◌∙◌, ◌+◌, ◌<◌, ◌∷◌, ℕ, Bool, true, false, List, ap, sym, subst}
use Rattle.std.proofs.Common.{arith, get_or, length, drop, drop-cons, add-one}
use Rattle.desk_tally.specs.Stands.{is_within, are_places}
use Rattle.desk_tally.proofs.Bools.{within_from}
use Rattle.desk_tally.proofs.Placing.{place_next}
use Rattle.desk_tally.proofs.counting.are_places.Goals as goal

pub loop-place-preserved : goal.loop-place-preserved
loop-place-preserved c =
    let places : List ℕ = c.args.places.now in
    let i : ℕ = c.loop-place.place-index in
    let place : ℕ = get_or places i 0 in
    let marks : List Bool = c.loop-place.is_taken.items in
    let split : drop i places ≡ place ∷ drop (i + 1) places =
    drop-cons places i 0 c.loop-place-test.true
    ∙ ap (λ (k : ℕ). place ∷ drop k places) (sym (add-one i)) in
    let within : is_within (length places) place ≡ true =
    within_from (length places) place (omega (arith, c.if-index-eq0.false))
    c.if-index-count.false in
    let free : get_or marks place false ≡ false =
    sym (subst (λ (b : Bool). b ≡ get_or marks place b) c.if-index.false c.index.ensures) in
    let lt : place < length marks =
    omega (arith, c.loop-place.is_taken.ok.0, c.loop-place.invariant.len, c.if-index-count.false) in
    record {
      len = c.loop-place.invariant.len;
      left = place_next (length places) i place marks places
          (are_places (length places) (λ place. false) places) split within free lt
          c.loop-place.invariant.left;
    }
