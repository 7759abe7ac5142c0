use Rattle.desk_tree_gather.proofs.SurveyLaws.{gathered_agrees, kept_is}
use Rattle.desk_tree_gather.proofs.laws.gathered_is_surveyed.Goals as goal

pub returns-clause-answer : goal.returns-clause-answer
returns-clause-answer c = gathered_agrees

pub returns-clause-tree : goal.returns-clause-tree
returns-clause-tree c = kept_is
