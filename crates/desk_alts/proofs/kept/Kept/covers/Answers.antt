use Rattle.std.proofs.Common.{List, sym, subst}
use Rattle.desk_alts.specs.declared.masks.Mask.{Mask}
use Rattle.desk_alts.specs.Masks.{IsAbove, IsCovered}
use Rattle.desk_alts.proofs.Columns.{covered_is_above}
use Rattle.desk_alts.proofs.kept.Kept.covers.Goals as goal

pub returns : goal.returns
returns c =
    let is = covered_is_above c.self.inside.lows.items c.self.inside.highs.items c.args.mask
    c.self.invariant in
    let low = c.as_slice.ensures.value in
    let high = c.as_slice-2.ensures.value in (
      (λ yes.
          let found = c.covers.ensures.0 yes in
          let there = subst (λ hs. IsCovered c.args.mask.low c.args.mask.high
          c.self.inside.lows.items hs) high
          (subst (λ ls. IsCovered c.args.mask.low c.args.mask.high ls c.as_slice-2.result.now) low
          found) in
          subst (λ (xs : List Mask). IsAbove xs c.args.mask) c.self.view_is (is.0 there)),
      (λ a.
          let there = is.1 (subst (λ (xs : List Mask). IsAbove xs c.args.mask) (sym c.self.view_is)
          a) in
          c.covers.ensures.1 (subst (λ ls. IsCovered c.args.mask.low c.args.mask.high ls
          c.as_slice-2.result.now) (sym low)
          (subst (λ hs. IsCovered c.args.mask.low c.args.mask.high c.self.inside.lows.items hs)
          (sym high) there))),
    )
