use Rattle.std.proofs.Common.{ap, refl}
use Rattle.std.proofs.Common.{◌≤◌, length, arith}
use Rattle.desk_tree_patterns.proofs.PlaceLemmas.{clear_less}
use Rattle.desk_tree_patterns.proofs.matching.behind_star.Goals as goal

pub returns : goal.returns
returns c =
    let text = c.args.place.text.now in
    let least = c.next_place-at.ensures.within in
    let most = c.name_length.ensures.within in
    let le : c.next_place-at.result ≤ length text = omega arith in (
      record {
        count = c.next_place-at.result;
        within = le;
        pieces = ap (λ s. s.pieces) c.further-here.ensures;
        text = ap (λ s. s.text) c.further-here.ensures;
        none = c.next_place-at.ensures.none;
      },
      clear_less text c.next_place-at.result c.name_length.result c.next_place-at.ensures.within
          c.name_length.ensures.within c.name_length.ensures.clear,
      refl,
      refl,
      refl,
    )
