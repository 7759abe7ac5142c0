use Rattle.std.proofs.Common.{◌<◌, ◌+◌, ℕ, List, length, take, arith}
use Rattle.desk_alts.specs.declared.masks.Mask.{Mask}
use Rattle.desk_alts.specs.Masks.{IsAbove, IsSubset, Adds, union_masks}
use Rattle.desk_alts.proofs.Inserting.{adds_more, union_added, united_more, taken_all}
use Rattle.desk_alts.proofs.kept.Kept.add_unions.Goals as goal

pub loop-at-preserved : goal.loop-at-preserved
loop-at-preserved c =
    let own : List Mask = c.args.self.now in
    let at : ℕ = c.loop-at.at in
    let mask : Mask = c.args.mask in
    let within : at < length own = omega (arith, c.loop-at-test.true, c.len-at-end.ensures) in
    adds_more (union_masks c.args.unions.now.items) (union_masks c.loop-at.unions.items)
    (union_masks c.push.new.self.items) (λ m. IsSubset mask m × IsAbove (take at own) m)
    (IsSubset c.of.result.mask) (λ m. IsSubset mask m × IsAbove (take (at + 1) own) m)
    c.loop-at.invariant (union_added c.loop-at.unions.items c.push.new.self.items c.of.result
    c.in_ok-push.ensures.items) (united_more mask c.of.result.mask own at c.get.result within
    c.get.ensures c.of.ensures)

pub returns : goal.returns
returns c =
    taken_all (λ (l : List Mask). Adds (union_masks c.args.unions.now.items)
    (union_masks c.loop-at.unions.items) (λ m. IsSubset c.args.mask m × IsAbove l m))
    c.args.self.now c.loop-at.at (omega (arith, c.loop-at-test.false, c.len-at-end.ensures))
    c.loop-at.invariant
