use Rattle.std.proofs.Common.{◌≡◌, ◌∙◌, ◌-◌, ◌<◌, ℕ, suc, ap, arith, get_or, length, true, List}
use Rattle.std.specs.Prelude.{vec_len}
use Rattle.desk_model.specs.declared.state.DutyState.TheVariants.{IsOpen}
use Rattle.desk_tally.specs.Stands.{are_placed, is_within}
use Rattle.desk_tally.specs.declared.stand.Stand.{Stand}
use Rattle.desk_tally.specs.declared.stand.Shift.{Shift}
use Rattle.desk_tally.proofs.Bools.{within_low, within_high}
use Rattle.desk_tally.proofs.Counts.{duty_at, placed-state, shifted_next}
use Rattle.desk_tally.proofs.lists.shift_all.Goals as goal

pub shift_one-requires-clause-within : goal.shift_one-requires-clause-within
shift_one-requires-clause-within c =
    let shifts : List Shift = c.args.shifts.now in
    let k : ℕ = c.loop-left.left - 1 in
    let none : Shift = record { duty = 0; state = IsOpen } in
    let count : ℕ = vec_len c.args.stands.now in
    let lt : k < length shifts = omega
    (arith, c.loop-left.invariant.within, c.loop-left-test.true) in
    let within : is_within count (get_or shifts k none).duty ≡ true =
    duty_at count shifts k none c.requires.within lt in
    omega (
      arith,
      within_low count (get_or shifts k none).duty within,
      within_high count (get_or shifts k none).duty within,
      c.loop-left.invariant.count,
    )

pub loop-left-preserved : goal.loop-left-preserved
loop-left-preserved c =
    let shifts : List Shift = c.args.shifts.now in
    let k : ℕ = c.loop-left.left - 1 in
    let none : Shift = record { duty = 0; state = IsOpen } in
    let shift : Shift = get_or shifts k none in
    let lt : k < length shifts = omega
    (arith, c.loop-left.invariant.within, c.loop-left-test.true) in
    let next : c.loop-left.left ≡ suc k = omega (arith, c.loop-left-test.true) in
    record {
      within = omega (arith, c.loop-left.invariant.within);
      count = c.shift_one.ensures.count ∙ c.loop-left.invariant.count;
      len = c.shift_one.ensures.len ∙ c.loop-left.invariant.len;
      stands = shifted_next shifts k c.loop-left.left none c.args.stands.now.items
          c.loop-left.stands.items c.shift_one.new.stands.items lt next c.loop-left.invariant.stands
          c.shift_one.ensures.stands;
      placed =
          ap (λ (all : List Stand). are_placed (vec_len c.shift_one.new.tallies) all)
          c.shift_one.ensures.stands
          ∙ (placed-state (vec_len c.shift_one.new.tallies) (shift.duty - 1) shift.state
          c.loop-left.stands.items
          ∙ (ap (λ (n : ℕ). are_placed n c.loop-left.stands.items) c.shift_one.ensures.len
          ∙ c.loop-left.invariant.placed));
      tallied = c.shift_one.ensures.tallied;
    }
