use Rattle.std.proofs.Common.{◌≡◌, ◌+◌, ◌-◌, ◌∙◌, ◌++◌, ap, sym, subst, arith, length}
use Rattle.std.proofs.Common.{length-append, replicate, true, List, ℕ}
use Rattle.std.proofs.lemmas.List.{length-replicate}
use Rattle.desk_tally.specs.Stands.{AreTallied, are_placed, is_within, open_at}
use Rattle.desk_tally.specs.declared.stand.Stand.{Stand}
use Rattle.desk_tally.proofs.Bools.{within_from}
use Rattle.desk_tally.proofs.Counts.{placed-raised}
use Rattle.desk_tally.proofs.tallies.Tallies.raise.Goals as goal

pub invariant_of-self : goal.invariant_of-self
invariant_of-self c =
    let self = c.args.self.now in
    let place = c.args.place in
    let count = c.args.count in
    let tallies = c.raise_at.new.tallies in
    let stands = c.push_open.new.stands in
    let same : length tallies.items ≡ length self.tallies.items =
    omega (arith, tallies.ok.0, self.tallies.ok.0, c.raise_at.ensures.len) in
    let at : place - 1 + 1 ≡ place = omega (arith, c.requires.0) in
    let within : is_within (length self.tallies.items) place ≡ true =
    within_from (length self.tallies.items) place c.requires.0 c.requires.1 in
    record {
      placed =
          ap (λ (n : ℕ). are_placed n stands.items) same
          ∙ (ap (are_placed (length self.tallies.items)) c.push_open.ensures
          ∙ placed-raised (length self.tallies.items) count place self.stands.items within
          self.placed);
      tallied = subst (λ (all : List Stand). AreTallied all tallies.items)
          (ap (λ (n : ℕ). self.stands.items ++ replicate count (open_at n)) at
          ∙ sym c.push_open.ensures)
          (c.raise_at.ensures.tallied self.stands.items self.tallied);
      limited = omega (
        arith,
        c.requires.2,
        ap length c.push_open.ensures,
        length-append self.stands.items (replicate count (open_at place)),
        length-replicate count (open_at place),
      );
    }
