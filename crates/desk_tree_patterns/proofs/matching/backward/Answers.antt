use Rattle.desk_tree_patterns.specs.Steps.{spot, state}
use Rattle.desk_tree_patterns.proofs.PlaceLemmas.{back_star, back_stars}
use Rattle.desk_tree_patterns.proofs.matching.backward.Goals as goal

pub returns-in-Some-clause-some : goal.returns-in-Some-clause-some
returns-in-Some-clause-some c = back_star (state c.args.search) (state c.behind_star.result)
    (spot c.in-Some.here) c.in-Some.ensures.some c.behind_star.ensures

pub returns-clause-some : goal.returns-clause-some
returns-clause-some c =
    back_stars (state c.args.search) (state c.behind_stars.result) (spot c.in_ok-here.here)
    c.in_default.ensures.none c.in_ok-here.ensures.some c.behind_stars.ensures
