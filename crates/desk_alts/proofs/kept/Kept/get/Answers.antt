use Rattle.std.proofs.Common.{length, ap, sym, arith}
use Rattle.desk_alts.proofs.Columns.{length_masks, got}
use Rattle.desk_alts.proofs.kept.Kept.get.Goals as goal

pub index-requires : goal.index-requires
index-requires c =
    let long = length_masks c.self.inside.lows.items c.self.inside.highs.items c.self.invariant in
    let e = ap length c.self.view_is in
    omega (arith, c.requires, long, e)

pub index-requires-2 : goal.index-requires-2
index-requires-2 c =
    let long = length_masks c.self.inside.lows.items c.self.inside.highs.items c.self.invariant in
    let e = ap length c.self.view_is in
    omega (arith, c.requires, long, e, c.self.invariant)

pub returns : goal.returns
returns c =
    let long = length_masks c.self.inside.lows.items c.self.inside.highs.items c.self.invariant in
    let e = ap length c.self.view_is in
    got c.self.inside.lows.items c.self.inside.highs.items c.args.self.now c.args.at
    c.index.result.now c.index-2.result.now c.self.invariant (sym c.self.view_is)
    (omega (arith, c.requires, long, e)) c.index.ensures c.index-2.ensures _
