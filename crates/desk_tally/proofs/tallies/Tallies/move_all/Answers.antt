use Rattle.std.proofs.Common.{◌≡◌, ◌∙◌, ap, arith, length, ℕ}
use Rattle.desk_tally.specs.Stands.{are_placed}
use Rattle.desk_tally.proofs.Counts.{placed-shifted}
use Rattle.desk_tally.proofs.tallies.Tallies.move_all.Goals as goal

pub invariant_of-self : goal.invariant_of-self
invariant_of-self c =
    let self = c.args.self.now in
    let tallies = c.shift_all.new.tallies in
    let stands = c.shift_all.new.stands in
    let same : length tallies.items ≡ length self.tallies.items =
    omega (arith, tallies.ok.0, self.tallies.ok.0, c.shift_all.ensures.len) in
    record {
      placed =
          ap (λ (n : ℕ). are_placed n stands.items) same
          ∙ (ap (are_placed (length self.tallies.items)) c.shift_all.ensures.stands
          ∙ (placed-shifted (length self.tallies.items) c.args.shifts.now self.stands.items
          ∙ self.placed));
      tallied = c.shift_all.ensures.tallied;
      limited = omega (
        arith,
        stands.ok.0,
        self.stands.ok.0,
        c.shift_all.ensures.count,
        self.limited,
      );
    }
