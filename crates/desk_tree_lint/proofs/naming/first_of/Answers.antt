use Rattle.std.proofs.Common.{◌∙◌}
use Rattle.desk_tree_lint.proofs.FirstLemmas.{first_there, first_nowhere, lent_shown}
use Rattle.desk_tree_lint.proofs.naming.first_of.Goals as goal

pub returns-in-Some : goal.returns-in-Some
returns-in-Some c = λ keys ms holds among.
    lent_shown c.as_ref.result _ c.as_ref.ensures.value
    ∙ first_there c.args.asked.now c.args.key.now c.in-Some.place _ c.in-Some.ensures.found.0
    (c.in-Some.ensures.found.1 _) keys ms holds

pub returns-in-None : goal.returns-in-None
returns-in-None c = λ keys ms holds among.
    absurd (first_nowhere c.args.asked.now c.args.key.now c.in-None.ensures.none keys ms holds
    among)
