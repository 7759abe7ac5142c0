use Rattle.std.proofs.Common.{◌≡◌, ◌∙◌, ◌+◌, ◌-◌, ◌<◌, suc, ap, refl, arith, length, List, ℕ}
use Rattle.std.specs.Prelude.{slice_index_or}
use Rattle.desk_model.specs.Tables.{with_duty_state}
use Rattle.desk_model.specs.declared.state.DutyState.TheVariants.{IsOpen}
use Rattle.desk_memory_rows.specs.declared.ledger.Place.{Place}
use Rattle.desk_memory_rows.proofs.Ledgering.{numbered-updated}
use Rattle.desk_memory_rows.proofs.Pushing.{set_next}
use Rattle.desk_memory_rows.proofs.ledger.set_states.Goals as goal
use Rattle.desk_access.specs.Follows.{are_numbered}

pub loop-left-preserved : goal.loop-left-preserved
loop-left-preserved c =
    let places : List Place = c.args.places.now in
    let left : ℕ = c.loop-left.left in
    let none : Place = record { duty = 0; state = IsOpen } in
    let place : Place = slice_index_or places (left - 1) none in
    let lt : left - 1 < length places =
    omega (arith, c.loop-left.invariant.within, c.loop-left-test.true) in
    let next : left ≡ suc (left - 1) = omega (arith, c.loop-left-test.true) in
    record {
      within = omega (arith, c.loop-left.invariant.within);
      len = c.set_state.ensures.len ∙ c.loop-left.invariant.len;
      numbers = ap (are_numbered 1) c.set_state.ensures.state
          ∙ numbered-updated (with_duty_state place.state) (λ row. refl) (1 + (place.duty - 1)) 1
          c.loop-left.rows.items c.loop-left.invariant.numbers;
      set = set_next _ places (left - 1) left none c.loop-left.rows.items c.args.rows.now.items
          c.set_state.new.rows.items c.requires.within lt next c.set_state.ensures.state
          c.loop-left.invariant.set;
    }
