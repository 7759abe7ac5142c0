use Rattle.std.proofs.Common.{◌≡◌, ◌∙◌, ◌+◌, ◌-◌, ◌<◌, ◌/◌, false, length, sym, ap, refl, arith, None, Some}
use Rattle.std.specs.Prelude.{slice_get}
use Rattle.std.proofs.lemmas.Option.{slice_get_read, get_or_from_slice_get}
use Rattle.desk_alts.specs.Listed.{is_below, own_at}
use Rattle.desk_alts.proofs.ListedLemmas.{halve_down}
use Rattle.desk_alts.proofs.listed.lower.Goals as goal

pub loop-low-preserved : goal.loop-low-preserved
loop-low-preserved c =
    let own = c.args.own.now in
    let low = c.loop-low.low in
    let high = c.loop-low.high in
    let middle = low + (high - low) / 2 in
    let ordered : low < high = c.loop-low-test.true in
    let within : middle < length own =
    omega (arith, c.loop-low-test.true, c.loop-low.invariant.within) in
    let read : slice_get own middle ≡ Some c.index-own-middle.result =
    slice_get_read own (length own) middle c.index-own-middle.result refl within
    c.index-own-middle.is in
    let at : own_at own middle ≡ c.index-own-middle.result =
    get_or_from_slice_get own middle c.index-own-middle.result None read in
    let test : is_below (own_at own middle) c.args.term.now ≡ false =
    ap (λ o. is_below o c.args.term.now) at ∙ (sym c.is_below.ensures ∙ c.if-is_below.false) in
    let left = c.loop-low.invariant.left in
    let halved = halve_down left.0 own c.args.term.now low high ordered left.1 test in
    record {
      ordered = omega arith;
      within = omega (arith, within);
      left = (halved.0, halved.1, halved.2 ∙ left.2);
    }
