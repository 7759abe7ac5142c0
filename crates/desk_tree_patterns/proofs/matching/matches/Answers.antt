use Rattle.std.proofs.Common.{length, refl}
use Rattle.desk_tree_patterns.specs.Parts.{pieces}
use Rattle.desk_tree_patterns.specs.Steps.{state}
use Rattle.desk_tree_patterns.proofs.Jumps.{holds_goes, goes_falls}
use Rattle.desk_tree_patterns.proofs.PlaceLemmas.{found_fits}
use Rattle.desk_tree_patterns.proofs.matching.matches.Goals as goal

pub returns : goal.returns
returns c =
    let here = c.loop-search.search.here in (
      (λ told. c.loop-search.invariant.holds.here
          (found_fits here.bytes.now here.parts.now here.text.now
          (c.loop-search-test.ensures.0 refl))),
      (λ fits. refl),
    )

pub loop-search-smaller : goal.loop-search-smaller
loop-search-smaller c = (goes_falls (length (pieces c.args.bytes.now c.args.parts.now))
    (length c.args.path.now) (state c.loop-search.search) (state c.in-Some.next)
    c.in-Some.ensures.some c.loop-search.invariant.within).1

pub loop-search-preserved : goal.loop-search-preserved
loop-search-preserved c = record {
  holds = holds_goes (pieces c.args.bytes.now c.args.parts.now) c.args.path.now
      (state c.loop-search.search) (state c.in-Some.next) c.in-Some.ensures.some
      c.loop-search.invariant.holds;
  within = (goes_falls (length (pieces c.args.bytes.now c.args.parts.now)) (length c.args.path.now)
      (state c.loop-search.search) (state c.in-Some.next) c.in-Some.ensures.some
      c.loop-search.invariant.within).0;
}
