use Rattle.std.proofs.Common.{refl}
use Rattle.desk_tree_patterns.specs.Parts.{pieces}
use Rattle.desk_tree_patterns.specs.Steps.{state}
use Rattle.desk_tree_patterns.proofs.Jumps.{holds_goes}
use Rattle.desk_tree_patterns.proofs.PlaceLemmas.{found_fits}
use Rattle.desk_tree_patterns.proofs.matching.found_within.Goals as goal

pub returns-then-is_found : goal.returns-then-is_found
returns-then-is_found c = let here = c.loop.search.here in (
  λ told. c.loop.invariant.here (found_fits here.bytes.now here.parts.now here.text.now
      (c.is_found.ensures.0 c.if-is_found.true)),
  λ fits. refl,
)

pub loop-preserved : goal.loop-preserved
loop-preserved c = holds_goes (pieces c.args.bytes.now c.args.parts.now) c.args.path.now
    (state c.loop.search) (state c.in-Some.next) c.in-Some.ensures.some c.loop.invariant
