use Rattle.std.proofs.Common.{◌+◌, ◌-◌, ◌/◌, sym, ◌∙◌, arith}
use Rattle.desk_texts.proofs.Halving.{lent_up_to, lent_from}
use Rattle.desk_texts.proofs.sorting.lower.Goals as goal

pub loop-low-preserved-then-is_below : goal.loop-low-preserved-then-is_below
loop-low-preserved-then-is_below g c =
    let m = c.loop-low.low + (c.loop-low.high - c.loop-low.low) / 2 in
    record {
      ordered = omega (arith, c.loop-low-test.true, c.loop-low.invariant.ordered);
      within = c.loop-low.invariant.within;
      before = lent_up_to g.P.Identified.id_of c.args.sorted.now.items c.args.id.now m c.requires
          (omega (arith, c.loop-low-test.true, c.loop-low.invariant.within))
          (λ d. sym (c.is_below.ensures d) ∙ c.if-is_below.true);
      behind = c.loop-low.invariant.behind;
    }

pub loop-low-preserved : goal.loop-low-preserved
loop-low-preserved g c =
    let m = c.loop-low.low + (c.loop-low.high - c.loop-low.low) / 2 in
    record {
      ordered = omega (arith, c.loop-low-test.true);
      within = omega (arith, c.loop-low-test.true, c.loop-low.invariant.within);
      before = c.loop-low.invariant.before;
      behind = lent_from g.P.Identified.id_of c.args.sorted.now.items c.args.id.now m c.requires
          (omega (arith, c.loop-low-test.true, c.loop-low.invariant.within))
          (λ d. sym (c.is_below.ensures d) ∙ c.if-is_below.false);
    }
