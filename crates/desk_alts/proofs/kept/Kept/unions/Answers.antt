use Rattle.std.proofs.Common.{◌<◌, ◌+◌, ℕ, List, length, take, ap, arith}
use Rattle.desk_alts.specs.declared.masks.Mask.{Mask}
use Rattle.desk_alts.specs.Masks.{IsAbove, IsSubset, Adds, union_masks}
use Rattle.desk_alts.proofs.Inserting.{adds_more, product_more, taken_all, from_nothing}
use Rattle.desk_alts.proofs.kept.Kept.unions.Goals as goal

pub loop-at-preserved : goal.loop-at-preserved
loop-at-preserved c =
    let own : List Mask = c.args.self.now in
    let other : List Mask = c.args.other.now in
    let at : ℕ = c.loop-at.at in
    let within : at < length own = omega (arith, c.loop-at-test.true, c.len-at-end.ensures) in
    adds_more (union_masks c.new-unions.result.items) (union_masks c.loop-at.unions.items)
    (union_masks c.add_unions.new.unions.items) (λ m. IsAbove (take at own) m × IsAbove other m)
    (λ m. IsSubset c.get.result m × IsAbove other m)
    (λ m. IsAbove (take (at + 1) own) m × IsAbove other m)
    c.loop-at.invariant c.in_ok-add_unions.ensures
    (product_more own other at c.get.result within c.get.ensures)

pub returns : goal.returns
returns c =
    from_nothing (union_masks c.new-unions.result.items) (union_masks c.loop-at.unions.items)
    (λ m. IsAbove c.args.self.now m × IsAbove c.args.other.now m)
    (ap union_masks c.new-unions.ensures.items)
    (taken_all (λ (l : List Mask). Adds (union_masks c.new-unions.result.items)
    (union_masks c.loop-at.unions.items) (λ m. IsAbove l m × IsAbove c.args.other.now m))
    c.args.self.now c.loop-at.at (omega (arith, c.loop-at-test.false, c.len-at-end.ensures))
    c.loop-at.invariant)
