use Rattle.std.proofs.Common.{◌<◌, ◌+◌, ℕ, List, length, take, arith}
use Rattle.desk_alts.specs.declared.masks.Mask.{Mask}
use Rattle.desk_alts.specs.Masks.{IsAbove, IsSubset, Adds}
use Rattle.desk_alts.proofs.Inserting.{adds_more, above_take_more, taken_all}
use Rattle.desk_alts.proofs.kept.Kept.insert_all.Goals as goal

pub loop-at-preserved : goal.loop-at-preserved
loop-at-preserved c =
    let other : List Mask = c.args.other.now in
    let at : ℕ = c.loop-at.at in
    let within : at < length other = omega (arith, c.loop-at-test.true, c.len-at-end.ensures) in
    record {
      apart = c.in_ok-insert.ensures.apart;
      exact = adds_more c.args.self.now c.loop-at.self c.insert.new.self (IsAbove (take at other))
          (IsSubset c.get.result) (IsAbove (take (at + 1) other)) c.loop-at.invariant.exact
          c.in_ok-insert.ensures.exact
          (above_take_more other at c.get.result within c.get.ensures);
    }

pub returns-clause-exact : goal.returns-clause-exact
returns-clause-exact c =
    taken_all (λ (l : List Mask). Adds c.args.self.now c.loop-at.self (IsAbove l)) c.args.other.now
    c.loop-at.at (omega (arith, c.loop-at-test.false, c.len-at-end.ensures))
    c.loop-at.invariant.exact
