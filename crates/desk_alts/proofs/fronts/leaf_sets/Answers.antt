use Rattle.desk_alts.proofs.FrontLemmas.{leaf_minimal}
use Rattle.desk_alts.proofs.fronts.leaf_sets.Goals as goal

pub returns : goal.returns
returns c =
    leaf_minimal c.args.table.now c.args.term.now c.place_of.result c.single.result
    c.new-kept.result c.insert.new.self c.requires.ordered c.place_of.ensures c.single.ensures
    c.new-kept.ensures c.in_ok-insert.ensures.apart c.in_ok-insert.ensures.exact
