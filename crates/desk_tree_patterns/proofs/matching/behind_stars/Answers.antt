use Rattle.std.proofs.Common.{ap, refl}
use Rattle.desk_tree_patterns.proofs.matching.behind_stars.Goals as goal

pub returns : goal.returns
returns c = (
  record {
    count = c.next_place-at.result;
    within = c.next_place-at.ensures.within;
    pieces = ap (λ s. s.pieces) c.further-here.ensures;
    text = ap (λ s. s.text) c.further-here.ensures;
    none = c.next_place-at.ensures.none;
  },
  refl,
  refl,
  refl,
  refl,
)
