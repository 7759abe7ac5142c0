use Rattle.std.proofs.lemmas.Result.{IfOk-weaker}
use Rattle.desk_tree_problems.proofs.ProblemLemmas.{lists_agree, first_agrees}
use Rattle.desk_tree_problems.proofs.problems.problems_of.Goals as goal

pub returns-clause-lint : goal.returns-clause-lint
returns-clause-lint c = λ r right. IfOk-weaker c.survey_problems.result _ _
    (λ p are. lists_agree r c.args.files.items p are) (c.survey_problems.ensures r right)

pub returns-clause-first : goal.returns-clause-first
returns-clause-first c = λ r right. IfOk-weaker c.survey_problems.result _ _
    (λ p are. first_agrees r c.args.files.items p are) (c.survey_problems.ensures r right)
