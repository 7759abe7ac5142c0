use Rattle.std.proofs.Common.{◌≡◌, ◌∙◌, ◌+◌, ◌-◌, ◌≤◌, ◌++◌, ℕ, List, ap, refl, sym, subst, arith}
use Rattle.std.proofs.Common.{get_or, length, replicate, take}
use Rattle.std.proofs.lemmas.List.{take_more, length-take-le}
use Rattle.desk_model.specs.declared.state.DutyState.TheVariants.{IsOpen}
use Rattle.desk_tally.specs.Stands.{AreTallied, at_state, open_at}
use Rattle.desk_tally.specs.declared.stand.Stand.{Stand}
use Rattle.desk_tally.proofs.Counts.{at_last, get_last, get_some, placed_low, raised-room, read, stands_some}
use Rattle.desk_tally.proofs.counting.tallies_of.Goals as goal

pub raise_at-requires-clause-room : goal.raise_at-requires-clause-room
raise_at-requires-clause-room c = λ tally at.
    let stands : List Stand = c.args.stands.now in
    let i : ℕ = c.loop-stand.stand-index in
    let none : Stand = record { place = 0; state = IsOpen } in
    let before : List Stand = take i stands in
    let few : tally.raised ≤ length before =
    raised-room before c.loop-stand.tallies.items ((get_or stands i none).place - 1) tally
    c.loop-stand.invariant.tallied at in
    omega (
      arith,
      few,
      length-take-le i stands c.loop-stand.auto.stand-index-end,
      c.loop-stand-test.true,
      c.requires.limited,
    )

pub move_at-requires-clause-some : goal.move_at-requires-clause-some
move_at-requires-clause-some c = λ tally at.
    let stands : List Stand = c.args.stands.now in
    let i : ℕ = c.loop-stand.stand-index in
    let none : Stand = record { place = 0; state = IsOpen } in
    let index : ℕ = (get_or stands i none).place - 1 in
    let before : List Stand = take i stands in
    stands_some (before ++ replicate 1 (open_at (index + 1))) c.raise_at.new.tallies.items
    (length before) index (open_at (index + 1)) tally
    (c.raise_at.ensures.tallied before c.loop-stand.invariant.tallied)
    (get_last before (open_at (index + 1))) refl at

pub loop-stand-preserved : goal.loop-stand-preserved
loop-stand-preserved c =
    let stands : List Stand = c.args.stands.now in
    let i : ℕ = c.loop-stand.stand-index in
    let none : Stand = record { place = 0; state = IsOpen } in
    let stand : Stand = get_or stands i none in
    let index : ℕ = stand.place - 1 in
    let before : List Stand = take i stands in
    let low : 1 ≤ stand.place = placed_low c.args.releases i stands stand c.requires.placed
    (get_some stands i stand c.loop-stand-test.true (read stands i none c.loop-stand-test.true)) in
    let same : index + 1 ≡ stand.place = omega (arith, low) in
    let moved : AreTallied (at_state (length before) stand.state
    (before ++ replicate 1 (open_at (index + 1)))) c.move_at.new.tallies.items =
    c.move_at.ensures.tallied (before ++ replicate 1 (open_at (index + 1))) (length before)
    (open_at (index + 1)) (get_last before (open_at (index + 1))) refl refl
    (c.raise_at.ensures.tallied before c.loop-stand.invariant.tallied) in
    let is : at_state (length before) stand.state (before
    ++ replicate 1 (open_at (index + 1))) ≡ take (i + 1) stands =
    ap (λ (n : ℕ). at_state (length before) stand.state (before ++ replicate 1 (open_at n))) same
    ∙ (at_last before stand ∙ sym (take_more stands i none c.loop-stand-test.true)) in
    record {
      len = c.move_at.ensures.len ∙ (c.raise_at.ensures.len ∙ c.loop-stand.invariant.len);
      tallied = subst (λ (all : List Stand). AreTallied all c.move_at.new.tallies.items) is moved;
    }
