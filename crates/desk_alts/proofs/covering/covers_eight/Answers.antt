use Rattle.desk_alts.proofs.Lanes.{lanes_tell}
use Rattle.desk_alts.proofs.covering.covers_eight.Goals as goal

pub returns : goal.returns
returns c =
    lanes_tell c.args.low c.args.high c.args.lows.now c.args.highs.now c.args.at c.requires.in_lows
    c.requires.in_highs c.ranges.low.fits c.ranges.high.fits
    (λ k. (c.type_inv.lows k).fits) (λ k. (c.type_inv.highs k).fits)
