use Rattle.std.proofs.Common.{◌≡◌, ◌+◌, ◌∙◌, ap, sym, subst, arith, length, List, ℕ}
use Rattle.desk_tally.specs.Stands.{AreTallied, are_placed}
use Rattle.desk_tally.specs.declared.tally.Tally.{Tally}
use Rattle.desk_tally.proofs.Counts.{placed-open, tallied-open}
use Rattle.desk_tally.proofs.tallies.Tallies.open.Goals as goal

pub invariant_of-self : goal.invariant_of-self
invariant_of-self c =
    let self = c.args.self.now in
    let tallies = c.push_reserved.new.self in
    let more : length tallies.items ≡ length self.tallies.items + 1 =
    omega (arith, tallies.ok.0, self.tallies.ok.0, c.push_reserved.ensures.len) in
    record {
      placed = ap (λ (n : ℕ). are_placed n self.stands.items) more
          ∙ placed-open (length self.tallies.items) self.stands.items self.placed;
      tallied = subst (λ (xs : List Tally). AreTallied self.stands.items xs)
          (sym c.push_reserved.ensures.items)
          (tallied-open self.stands.items self.tallies.items c.new.result self.placed self.tallied
          c.new.ensures);
      limited = self.limited;
    }
