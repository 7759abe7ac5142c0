use Rattle.desk_tree_patterns.proofs.Names.{none_further}
use Rattle.desk_tree_patterns.proofs.matching.next_name.Goals as goal

pub returns-in_default-clause-none : goal.returns-in_default-clause-none
returns-in_default-clause-none c = none_further c.args.place c.in_ok-place.place c.in_ok-place.was
    c.in_default.ensures.none
