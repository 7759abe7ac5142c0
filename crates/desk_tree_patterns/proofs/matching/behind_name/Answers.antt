use borrow.Author.Tests.{eqb-true}
use Rattle.desk_tree_patterns.proofs.Names.{behind_none, behind_first}
use Rattle.desk_tree_patterns.proofs.matching.behind_name.Goals as goal

pub returns-in_default-clause-none : goal.returns-in_default-clause-none
returns-in_default-clause-none c = behind_none c.args.text.now c.in_default.ensures

pub returns-clause-some : goal.returns-clause-some
returns-clause-some c =
    let found = c.in-Some.ensures in
    behind_first c.args.text.now c.in-Some.slash found.0.high (eqb-true _ _ found.1) found.0.before
