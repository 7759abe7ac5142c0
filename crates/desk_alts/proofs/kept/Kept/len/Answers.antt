use Rattle.std.proofs.Common.{length, ap, arith}
use Rattle.desk_alts.proofs.Columns.{length_masks}
use Rattle.desk_alts.proofs.kept.Kept.len.Goals as goal

pub returns : goal.returns
returns c =
    let long = length_masks c.self.inside.lows.items c.self.inside.highs.items c.self.invariant in
    let e = ap length c.self.view_is in
    omega (arith, c.len.ensures, long, e)
